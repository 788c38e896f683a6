use Rattle.lrs_image_laws.proofs.Renaming.{recalibrate_makes}
use Rattle.lrs_image_laws.proofs.route_laws.recalibrate_makes.Goals as goal

pub returns : goal.returns
returns c = recalibrate_makes
