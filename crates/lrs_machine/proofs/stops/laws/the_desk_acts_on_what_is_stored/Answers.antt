use Rattle.lrs_machine.proofs.Stop.Stopping.{desk_is_stored}
use Rattle.lrs_machine.proofs.stops.laws.the_desk_acts_on_what_is_stored.Goals as goal

pub returns : goal.returns
returns c = desk_is_stored
