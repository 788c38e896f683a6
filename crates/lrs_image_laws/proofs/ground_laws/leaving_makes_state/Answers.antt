use Rattle.lrs_image_laws.proofs.Leaving.{leaving_makes_state}
use Rattle.lrs_image_laws.proofs.ground_laws.leaving_makes_state.Goals as goal

pub returns : goal.returns
returns c = leaving_makes_state
