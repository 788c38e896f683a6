use Rattle.std.proofs.Common.{[], ◌∷◌, refl, codes}
use Rattle.lrs_store_tables.specs.Schema.{select_origin}
use Rattle.lrs_store_tables.specs.StoredRows.{origin_in, origin_places}
use Rattle.lrs_store_tables.proofs.SelectStatements.{origin_shows, select_origin_is}
use Rattle.lrs_store_tables.proofs.AloneStatements.{origin_alone, origin_typed}
use Rattle.lrs_store_tables.proofs.TableReadLemmas.{reads_table}
use Rattle.lrs_store_tables.proofs.select.read_origins.Goals as goal

pub returns : goal.returns
returns g c =
    reads_table select_origin (codes "asset" ∷ codes "edit" ∷ []) 19 origin_shows origin_places select_origin_is origin_alone origin_typed (λ r. refl) (λ t. t.origin) origin_in (λ db. refl)
    c.args.tx.now c.query_all.new.self c.query_all.result c.query_all.ensures.same_reference c.query_all.ensures.ok c.query_all.ensures.err c.query_all.ensures.survives
