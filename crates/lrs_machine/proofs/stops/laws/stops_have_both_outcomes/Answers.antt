use Rattle.lrs_machine.proofs.Stop.Stopping.{stops_have_both_outcomes}
use Rattle.lrs_machine.proofs.stops.laws.stops_have_both_outcomes.Goals as goal

pub returns : goal.returns
returns c = stops_have_both_outcomes
