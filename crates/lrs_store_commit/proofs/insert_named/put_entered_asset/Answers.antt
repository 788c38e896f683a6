use Rattle.lrs_store_tables.specs.RowChanges.{with_asset_row, with_origin}
use Rattle.lrs_store_tables.proofs.Steady.{steady-with_origin}
use Rattle.lrs_store_commit.proofs.Last.{then_makes}
use Rattle.lrs_store_commit.proofs.insert_named.put_entered_asset.Goals as goal

pub returns : goal.returns
returns g c = then_makes (with_asset_row c.args.asset.now) (with_origin c.args.asset.now) (steady-with_origin c.args.asset.now) c.in_ok-put_asset.ensures c.put_origin.ensures
