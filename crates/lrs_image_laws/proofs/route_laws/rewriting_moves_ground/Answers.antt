use Rattle.lrs_image_laws.proofs.Running.{rewriting_moves_ground}
use Rattle.lrs_image_laws.proofs.route_laws.rewriting_moves_ground.Goals as goal

pub returns : goal.returns
returns c = rewriting_moves_ground
