use Rattle.lrs_machine.proofs.Stop.Resuming.{going_on_is_unstopped}
use Rattle.lrs_machine.proofs.stops.laws.going_on_is_as_without_stops.Goals as goal

pub returns : goal.returns
returns c = going_on_is_unstopped
