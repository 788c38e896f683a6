use Rattle.std.proofs.Common.{◌-◌, length}
use Rattle.lrs_machine.specs.Image.{state_of}
use Rattle.lrs_report_answers.specs.CombinationParts.{Walks}
use Rattle.lrs_report_answers.proofs.combinations.entries.push_route.Given as goal

abbrev pub invariant-loop-left : goal.invariant-loop-left
invariant-loop-left l = Walks (state_of l.inventory) l.classes l.route_row.route.course l.fn.entries.items l.entries.items l.at l.lefts l.rights

abbrev pub decreases-loop-left : goal.decreases-loop-left
decreases-loop-left l = length l.route_row.route.course - l.at
