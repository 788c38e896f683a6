use Rattle.lrs_machine.proofs.Stop.Resuming.{new_keys_go_on}
use Rattle.lrs_machine.proofs.stops.laws.new_keys_go_on_as_without_stops.Goals as goal

pub returns : goal.returns
returns c = new_keys_go_on
