use Rattle.lrs_report_answers.proofs.Place.Targets.{ArePositions}
use Rattle.lrs_report_answers.proofs.places.positions.positions_of.Given as goal

abbrev pub invariant-loop-referent : goal.invariant-loop-referent
invariant-loop-referent l = ArePositions l.route l.chainage l.referent-index l.positions.items
