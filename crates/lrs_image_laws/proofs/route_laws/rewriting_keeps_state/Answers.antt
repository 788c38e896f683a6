use Rattle.lrs_image_laws.proofs.Standing.{rewriting_keeps_state}
use Rattle.lrs_image_laws.proofs.route_laws.rewriting_keeps_state.Goals as goal

pub returns : goal.returns
returns c = rewriting_keeps_state
