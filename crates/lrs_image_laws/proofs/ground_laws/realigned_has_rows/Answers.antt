use Rattle.lrs_image_laws.proofs.Realigning.{realigned_has_rows}
use Rattle.lrs_image_laws.proofs.ground_laws.realigned_has_rows.Goals as goal

pub returns : goal.returns
returns c = realigned_has_rows
