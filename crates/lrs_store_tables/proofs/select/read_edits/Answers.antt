use Rattle.std.proofs.Common.{[], ◌∷◌, refl, codes}
use Rattle.lrs_store_tables.specs.Schema.{select_edit}
use Rattle.lrs_store_tables.specs.StoredRows.{edit_in, edit_places}
use Rattle.lrs_store_tables.proofs.SelectStatements.{edit_shows, select_edit_is}
use Rattle.lrs_store_tables.proofs.AloneStatements.{edit_alone, edit_typed}
use Rattle.lrs_store_tables.proofs.TableReadLemmas.{reads_table}
use Rattle.lrs_store_tables.proofs.select.read_edits.Goals as goal

pub returns : goal.returns
returns g c =
    reads_table select_edit (codes "number" ∷ codes "token" ∷ codes "line" ∷ []) 17 edit_shows edit_places select_edit_is edit_alone edit_typed (λ r. refl) (λ t. t.edit) edit_in (λ db. refl)
    c.args.tx.now c.query_all.new.self c.query_all.result c.query_all.ensures.same_reference c.query_all.ensures.ok c.query_all.ensures.err c.query_all.ensures.survives
