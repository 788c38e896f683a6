use Rattle.lrs_machine.proofs.Stop.Stopping.{none_is_doubled}
use Rattle.lrs_machine.proofs.stops.laws.no_command_is_doubled.Goals as goal

pub returns : goal.returns
returns c = none_is_doubled
