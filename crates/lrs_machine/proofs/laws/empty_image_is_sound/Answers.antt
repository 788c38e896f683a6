use Rattle.std.proofs.Common.{refl}
use Rattle.lrs_machine.specs.Image.{state_of}
use Rattle.lrs_machine.specs.Sound.{first_unsound}
use Rattle.lrs_machine.proofs.laws.empty_image_is_sound.Goals as goal

pub returns : goal.returns
unfolding first_unsound state_of
returns c = (refl, refl)
