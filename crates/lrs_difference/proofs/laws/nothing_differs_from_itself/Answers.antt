use Rattle.lrs_difference.proofs.Itself.{nothing_differs}
use Rattle.lrs_difference.proofs.laws.nothing_differs_from_itself.Goals as goal

pub returns : goal.returns
returns c = nothing_differs
