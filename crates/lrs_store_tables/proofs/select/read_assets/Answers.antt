use Rattle.std.proofs.Common.{[], ◌∷◌, refl, codes}
use Rattle.lrs_store_tables.specs.Schema.{select_asset}
use Rattle.lrs_store_tables.specs.StoredRows.{asset_in, asset_places}
use Rattle.lrs_store_tables.proofs.SelectStatements.{asset_shows, select_asset_is}
use Rattle.lrs_store_tables.proofs.AloneStatements.{asset_alone, asset_typed}
use Rattle.lrs_store_tables.proofs.TableReadLemmas.{reads_table}
use Rattle.lrs_store_tables.proofs.select.read_assets.Goals as goal

pub returns : goal.returns
returns g c =
    reads_table select_asset (codes "number" ∷ codes "class" ∷ codes "value" ∷ codes "lateral" ∷ []) 4 asset_shows asset_places select_asset_is asset_alone asset_typed (λ r. refl) (λ t. t.asset) asset_in (λ db. refl)
    c.args.tx.now c.query_all.new.self c.query_all.result c.query_all.ensures.same_reference c.query_all.ensures.ok c.query_all.ensures.err c.query_all.ensures.survives
