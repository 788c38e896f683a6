use Rattle.lrs_image_sound.proofs.Balancing.{apart_is_once}
use Rattle.lrs_image_sound.proofs.laws.apart_is_once.Goals as goal

pub returns : goal.returns
returns c = apart_is_once
