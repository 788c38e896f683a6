use Rattle.lrs_image_laws.proofs.Halved.{parts_are_routes}
use Rattle.lrs_image_laws.proofs.route_laws.parts_are_routes.Goals as goal

pub returns : goal.returns
returns c = parts_are_routes
