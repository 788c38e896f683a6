use Rattle.std.proofs.Common.{◌≡◌, Some, take, map}
use Rattle.lrs_report_answers.specs.DrawnRows.{class_named}
use Rattle.lrs_report_answers.proofs.route_diagram.named_classes.Given as goal

abbrev pub invariant-loop-at : goal.invariant-loop-at
invariant-loop-at l = map (class_named l.classes.rows) (take l.at l.names) ≡ map Some l.found.items
