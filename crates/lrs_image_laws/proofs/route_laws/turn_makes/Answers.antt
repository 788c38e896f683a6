use Rattle.lrs_image_laws.proofs.Turning.{turn_makes}
use Rattle.lrs_image_laws.proofs.route_laws.turn_makes.Goals as goal

pub returns : goal.returns
returns c = turn_makes
