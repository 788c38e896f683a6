use Rattle.lrs_image_laws.proofs.Joining.{join_makes}
use Rattle.lrs_image_laws.proofs.route_laws.join_makes.Goals as goal

pub returns : goal.returns
returns c = join_makes
