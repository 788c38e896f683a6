use Rattle.lrs_image_laws.proofs.Sounding.{orderly_lawful_is_sound}
use Rattle.lrs_image_laws.proofs.soundness.orderly_lawful_images_are_sound.Goals as goal

pub returns : goal.returns
returns c = orderly_lawful_is_sound
