use Rattle.lrs_machine.proofs.Stop.Working.{two_in_flight}
use Rattle.lrs_machine.proofs.stops.examples.two_in_flight.Goals as goal

pub returns : goal.returns
returns c = two_in_flight
