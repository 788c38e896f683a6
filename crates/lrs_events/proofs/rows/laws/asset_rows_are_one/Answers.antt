use Rattle.lrs_events.proofs.Row.OfAsset.{asset_rows_are_one}
use Rattle.lrs_events.proofs.rows.laws.asset_rows_are_one.Goals as goal

pub returns : goal.returns
returns c = asset_rows_are_one
