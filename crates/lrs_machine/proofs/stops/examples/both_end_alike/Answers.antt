use Rattle.lrs_machine.proofs.Stop.Working.{both_end_alike}
use Rattle.lrs_machine.proofs.stops.examples.both_end_alike.Goals as goal

pub returns : goal.returns
returns c = both_end_alike
