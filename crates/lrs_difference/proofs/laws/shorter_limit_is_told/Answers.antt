use Rattle.std.proofs.Common.{refl}
use Rattle.lrs_machine.specs.Image.{state_of}
use Rattle.lrs_difference.specs.Difference.{difference}
use Rattle.lrs_difference.proofs.laws.shorter_limit_is_told.Goals as goal

pub returns : goal.returns
unfolding difference state_of
returns c = refl
