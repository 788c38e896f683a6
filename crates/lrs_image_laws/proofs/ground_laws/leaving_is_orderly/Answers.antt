use Rattle.lrs_image_laws.proofs.Leaving.{leaving_is_orderly}
use Rattle.lrs_image_laws.proofs.ground_laws.leaving_is_orderly.Goals as goal

pub returns : goal.returns
returns c = leaving_is_orderly
