use Rattle.lrs_machine.proofs.SoundImages.{sound_is_lawful}
use Rattle.lrs_machine.proofs.laws.sound_images_are_lawful.Goals as goal

pub returns : goal.returns
returns c = sound_is_lawful
