use Rattle.lrs_machine.proofs.Stop.Stopping.{none_is_lost}
use Rattle.lrs_machine.proofs.stops.laws.no_acknowledged_command_is_lost.Goals as goal

pub returns : goal.returns
returns c = none_is_lost
