use Rattle.lrs_image_laws.proofs.Halved.{parts_have_rows}
use Rattle.lrs_image_laws.proofs.route_laws.parts_have_rows.Goals as goal

pub returns : goal.returns
returns c = parts_have_rows
