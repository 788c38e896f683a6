use Rattle.lrs_image_laws.proofs.Making.{sound_is_orderly_lawful}
use Rattle.lrs_image_laws.proofs.soundness.sound_is_orderly_and_lawful.Goals as goal

pub returns : goal.returns
returns c = sound_is_orderly_lawful
