use Rattle.lrs_image_laws.proofs.Turning.{turned_has_rows}
use Rattle.lrs_image_laws.proofs.route_laws.turned_has_rows.Goals as goal

pub returns : goal.returns
returns c = turned_has_rows
