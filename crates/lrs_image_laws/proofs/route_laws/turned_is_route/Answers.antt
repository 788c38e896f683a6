use Rattle.lrs_image_laws.proofs.Turning.{turned_is_route}
use Rattle.lrs_image_laws.proofs.route_laws.turned_is_route.Goals as goal

pub returns : goal.returns
returns c = turned_is_route
