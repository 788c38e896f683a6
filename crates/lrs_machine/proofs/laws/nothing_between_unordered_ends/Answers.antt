use Rattle.lrs_machine.proofs.Between.{nothing_between}
use Rattle.lrs_machine.proofs.laws.nothing_between_unordered_ends.Goals as goal

pub returns : goal.returns
returns c = nothing_between
