use Rattle.std.proofs.Common.{[], ◌∷◌, refl, codes}
use Rattle.lrs_store_tables.specs.Schema.{select_class}
use Rattle.lrs_store_tables.specs.StoredRows.{class_in, class_places}
use Rattle.lrs_store_tables.proofs.SelectStatements.{class_shows, select_class_is}
use Rattle.lrs_store_tables.proofs.AloneStatements.{class_alone, class_typed}
use Rattle.lrs_store_tables.proofs.TableReadLemmas.{reads_table}
use Rattle.lrs_store_tables.proofs.select.read_classes.Goals as goal

pub returns : goal.returns
returns g c =
    reads_table select_class (codes "name" ∷ codes "kind" ∷ []) 2 class_shows class_places select_class_is class_alone class_typed (λ r. refl) (λ t. t.class) class_in (λ db. refl)
    c.args.tx.now c.query_all.new.self c.query_all.result c.query_all.ensures.same_reference c.query_all.ensures.ok c.query_all.ensures.err c.query_all.ensures.survives
