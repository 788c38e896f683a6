use Rattle.lrs_image_laws.proofs.Making.{made_is_sound}
use Rattle.lrs_image_laws.proofs.soundness.what_commands_make_is_sound.Goals as goal

pub returns : goal.returns
returns c = made_is_sound
