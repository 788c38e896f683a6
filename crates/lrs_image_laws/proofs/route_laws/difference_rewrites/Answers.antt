use Rattle.lrs_image_laws.proofs.Differences.{difference_rewrites}
use Rattle.lrs_image_laws.proofs.route_laws.difference_rewrites.Goals as goal

pub returns : goal.returns
returns c = difference_rewrites
