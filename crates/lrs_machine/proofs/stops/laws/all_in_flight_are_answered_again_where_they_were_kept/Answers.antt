use Rattle.lrs_machine.proofs.Stop.Again.{all_again_where_kept}
use Rattle.lrs_machine.proofs.stops.laws.all_in_flight_are_answered_again_where_they_were_kept.Goals as goal

pub returns : goal.returns
returns c = all_again_where_kept
