use Rattle.lrs_machine.proofs.Stop.Stopping.{stored_is_lawful}
use Rattle.lrs_machine.proofs.stops.laws.what_is_stored_is_lawful.Goals as goal

pub returns : goal.returns
returns c = stored_is_lawful
