use Rattle.std.proofs.Common.{refl}
use Rattle.std.specs.Fmt.{digits}
use Rattle.lrs_machine.specs.Machine.{step, attempt}
use Rattle.lrs_machine.specs.Image.{state_of}
use Rattle.lrs_machine.specs.Sound.{first_unsound}
use Rattle.lrs_examples.proofs.images.image_stands.Goals as goal

pub returns : goal.returns
unfolding digits step attempt state_of first_unsound
returns c = (refl, refl, refl, refl, refl, refl)
