use Rattle.lrs_image_sound.proofs.Excluding.{exclusive_is_apart}
use Rattle.lrs_image_sound.proofs.laws.exclusive_is_apart.Goals as goal

pub returns : goal.returns
returns c = exclusive_is_apart
