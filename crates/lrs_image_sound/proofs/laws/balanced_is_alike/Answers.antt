use Rattle.lrs_image_sound.proofs.Balancing.{balanced_is_alike}
use Rattle.lrs_image_sound.proofs.laws.balanced_is_alike.Goals as goal

pub returns : goal.returns
returns c = balanced_is_alike
