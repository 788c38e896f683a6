use Rattle.lrs_machine.proofs.Stop.Stopping.{sent_first_is_unstopped}
use Rattle.lrs_machine.proofs.stops.laws.sent_first_is_as_without_stops.Goals as goal

pub returns : goal.returns
returns c = sent_first_is_unstopped
