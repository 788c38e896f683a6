use Rattle.lrs_machine.proofs.Stop.Working.{one_link_or_two}
use Rattle.lrs_machine.proofs.stops.examples.one_link_or_two.Goals as goal

pub returns : goal.returns
returns c = one_link_or_two
