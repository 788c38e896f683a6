use Rattle.lrs_difference.proofs.RouteEdits.{tell_no_asset}
use Rattle.lrs_difference.proofs.laws.route_edits_tell_no_asset.Goals as goal

pub returns : goal.returns
returns c = tell_no_asset
