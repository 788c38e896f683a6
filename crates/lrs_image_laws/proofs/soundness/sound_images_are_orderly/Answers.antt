use Rattle.lrs_image_laws.proofs.Ordering.{sound_is_orderly}
use Rattle.lrs_image_laws.proofs.soundness.sound_images_are_orderly.Goals as goal

pub returns : goal.returns
returns c = sound_is_orderly
