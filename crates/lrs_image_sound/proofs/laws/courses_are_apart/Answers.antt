use Rattle.lrs_image_sound.proofs.Coursed.{courses_are_apart}
use Rattle.lrs_image_sound.proofs.laws.courses_are_apart.Goals as goal

pub returns : goal.returns
returns c = courses_are_apart
