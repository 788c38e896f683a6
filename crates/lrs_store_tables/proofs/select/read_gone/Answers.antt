use Rattle.std.proofs.Common.{[], ◌∷◌, refl, codes}
use Rattle.lrs_store_tables.specs.Schema.{select_gone}
use Rattle.lrs_store_tables.specs.StoredRows.{gone_in, gone_places}
use Rattle.lrs_store_tables.proofs.SelectStatements.{gone_shows, select_gone_is}
use Rattle.lrs_store_tables.proofs.AloneStatements.{gone_alone, gone_typed}
use Rattle.lrs_store_tables.proofs.TableReadLemmas.{reads_table}
use Rattle.lrs_store_tables.proofs.select.read_gone.Goals as goal

pub returns : goal.returns
returns g c =
    reads_table select_gone (codes "edit" ∷ codes "cause" ∷ codes "asset" ∷ codes "link" ∷ codes "lo" ∷ codes "hi" ∷ codes "side" ∷ []) 15 gone_shows gone_places select_gone_is gone_alone gone_typed (λ r. refl) (λ t. t.gone) gone_in (λ db. refl)
    c.args.tx.now c.query_all.new.self c.query_all.result c.query_all.ensures.same_reference c.query_all.ensures.ok c.query_all.ensures.err c.query_all.ensures.survives
