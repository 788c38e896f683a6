use Rattle.lrs_machine.specs.Image.{state_of}
use Rattle.lrs_report_answers.specs.CombinationParts.{CountRoutes}
use Rattle.lrs_report_answers.proofs.SideBySide.{AreAmong}
use Rattle.lrs_report_answers.proofs.combinations.entries.all_entries.Given as goal

abbrev pub invariant-loop-route_row : goal.invariant-loop-route_row
invariant-loop-route_row l = record {
  among : AreAmong l.route_row-iterator l.inventory.routes;
  counted : CountRoutes (state_of l.inventory) l.classes l.entries.items l.route_row-iterator l.inventory.routes;
}
