use Rattle.std.proofs.Common.{◌≡◌, ◌++◌}
use Rattle.lrs_report_answers.proofs.route_diagram.all_classes.Given as goal

abbrev pub invariant-loop-class : goal.invariant-loop-class
invariant-loop-class l = l.all.items ++ l.class-iterator ≡ l.classes.rows
