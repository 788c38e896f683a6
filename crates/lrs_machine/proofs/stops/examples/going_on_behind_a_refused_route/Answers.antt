use Rattle.lrs_machine.proofs.Stop.Working.{goes_on_behind_the_link}
use Rattle.lrs_machine.proofs.stops.examples.going_on_behind_a_refused_route.Goals as goal

pub returns : goal.returns
returns c = goes_on_behind_the_link
