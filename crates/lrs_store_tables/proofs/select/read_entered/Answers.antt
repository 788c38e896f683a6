use Rattle.std.proofs.Common.{[], ◌∷◌, refl, codes}
use Rattle.lrs_store_tables.specs.Schema.{select_entered}
use Rattle.lrs_store_tables.specs.StoredRows.{entered_in, entered_places}
use Rattle.lrs_store_tables.proofs.SelectStatements.{entered_shows, select_entered_is}
use Rattle.lrs_store_tables.proofs.AloneStatements.{entered_alone, entered_typed}
use Rattle.lrs_store_tables.proofs.TableReadLemmas.{reads_table}
use Rattle.lrs_store_tables.proofs.select.read_entered.Goals as goal

pub returns : goal.returns
returns g c =
    reads_table select_entered (codes "edit" ∷ codes "asset" ∷ codes "link" ∷ codes "lo" ∷ codes "hi" ∷ codes "side" ∷ []) 13 entered_shows entered_places select_entered_is entered_alone entered_typed (λ r. refl) (λ t. t.entered) entered_in (λ db. refl)
    c.args.tx.now c.query_all.new.self c.query_all.result c.query_all.ensures.same_reference c.query_all.ensures.ok c.query_all.ensures.err c.query_all.ensures.survives
