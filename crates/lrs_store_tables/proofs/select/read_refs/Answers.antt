use Rattle.std.proofs.Common.{[], ◌∷◌, refl, codes}
use Rattle.lrs_store_tables.specs.Schema.{select_ref}
use Rattle.lrs_store_tables.specs.StoredRows.{ref_in, ref_places}
use Rattle.lrs_store_tables.proofs.SelectStatements.{ref_shows, select_ref_is}
use Rattle.lrs_store_tables.proofs.AloneStatements.{ref_alone, ref_typed}
use Rattle.lrs_store_tables.proofs.TableReadLemmas.{reads_table}
use Rattle.lrs_store_tables.proofs.select.read_refs.Goals as goal

pub returns : goal.returns
returns g c =
    reads_table select_ref (codes "name" ∷ codes "route" ∷ codes "place" ∷ []) 9 ref_shows ref_places select_ref_is ref_alone ref_typed (λ r. refl) (λ t. t.ref) ref_in (λ db. refl)
    c.args.tx.now c.query_all.new.self c.query_all.result c.query_all.ensures.same_reference c.query_all.ensures.ok c.query_all.ensures.err c.query_all.ensures.survives
