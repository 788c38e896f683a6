use Rattle.std.proofs.Common.{[], ◌∷◌, refl, codes}
use Rattle.lrs_store_tables.specs.Schema.{select_mark}
use Rattle.lrs_store_tables.specs.StoredRows.{mark_in, mark_places}
use Rattle.lrs_store_tables.proofs.SelectStatements.{mark_shows, select_mark_is}
use Rattle.lrs_store_tables.proofs.AloneStatements.{mark_alone, mark_typed}
use Rattle.lrs_store_tables.proofs.TableReadLemmas.{reads_table}
use Rattle.lrs_store_tables.proofs.select.read_marks.Goals as goal

pub returns : goal.returns
returns g c =
    reads_table select_mark (codes "route" ∷ codes "n" ∷ codes "chainage" ∷ codes "measure" ∷ []) 7 mark_shows mark_places select_mark_is mark_alone mark_typed (λ r. refl) (λ t. t.mark) mark_in (λ db. refl)
    c.args.tx.now c.query_all.new.self c.query_all.result c.query_all.ensures.same_reference c.query_all.ensures.ok c.query_all.ensures.err c.query_all.ensures.survives
