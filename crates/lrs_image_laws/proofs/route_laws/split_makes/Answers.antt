use Rattle.lrs_image_laws.proofs.Splitting.{split_makes}
use Rattle.lrs_image_laws.proofs.route_laws.split_makes.Goals as goal

pub returns : goal.returns
returns c = split_makes
