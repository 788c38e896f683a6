use Rattle.lrs_image_laws.proofs.Rewriting.{rewriting_is_orderly}
use Rattle.lrs_image_laws.proofs.route_laws.rewriting_is_orderly.Goals as goal

pub returns : goal.returns
returns c = rewriting_is_orderly
