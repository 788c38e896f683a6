use Rattle.lrs_machine.proofs.Stop.Working.{excluded}
use Rattle.lrs_machine.proofs.stops.examples.what_cannot_be.Goals as goal

pub returns : goal.returns
returns c = excluded
