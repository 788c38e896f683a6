use Rattle.lrs_image_laws.proofs.Joined.{joins_are_routes}
use Rattle.lrs_image_laws.proofs.route_laws.joins_are_routes.Goals as goal

pub returns : goal.returns
returns c = joins_are_routes
