use Rattle.lrs_machine.proofs.Stop.Stopping.{runs_are_there}
use Rattle.lrs_machine.proofs.stops.laws.runs_are_there.Goals as goal

pub returns : goal.returns
returns c = runs_are_there
