use Rattle.lrs_difference.proofs.Signs.{signs_are_exchanged}
use Rattle.lrs_difference.proofs.laws.signs_are_exchanged.Goals as goal

pub returns : goal.returns
returns c = signs_are_exchanged
