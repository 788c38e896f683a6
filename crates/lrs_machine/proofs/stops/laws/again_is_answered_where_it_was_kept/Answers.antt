use Rattle.lrs_machine.proofs.Stop.Again.{again_where_kept}
use Rattle.lrs_machine.proofs.stops.laws.again_is_answered_where_it_was_kept.Goals as goal

pub returns : goal.returns
returns c = again_where_kept
