use Rattle.lrs_image_laws.proofs.Realigning.{realign_makes}
use Rattle.lrs_image_laws.proofs.ground_laws.realign_makes.Goals as goal

pub returns : goal.returns
returns c = realign_makes
