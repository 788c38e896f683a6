use Rattle.lrs_image_laws.proofs.Renaming.{renumber_makes}
use Rattle.lrs_image_laws.proofs.route_laws.renumber_makes.Goals as goal

pub returns : goal.returns
returns c = renumber_makes
