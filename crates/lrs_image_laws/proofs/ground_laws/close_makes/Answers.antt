use Rattle.lrs_image_laws.proofs.Closing.{close_makes}
use Rattle.lrs_image_laws.proofs.ground_laws.close_makes.Goals as goal

pub returns : goal.returns
returns c = close_makes
