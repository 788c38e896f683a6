use Rattle.lrs_image_laws.proofs.Joined.{joins_have_rows}
use Rattle.lrs_image_laws.proofs.route_laws.joins_have_rows.Goals as goal

pub returns : goal.returns
returns c = joins_have_rows
