use Rattle.std.proofs.Common.{[], ◌∷◌, refl, codes}
use Rattle.lrs_store_tables.specs.Schema.{select_span}
use Rattle.lrs_store_tables.specs.StoredRows.{span_in, span_places}
use Rattle.lrs_store_tables.proofs.SelectStatements.{span_shows, select_span_is}
use Rattle.lrs_store_tables.proofs.AloneStatements.{span_alone, span_typed}
use Rattle.lrs_store_tables.proofs.TableReadLemmas.{reads_table}
use Rattle.lrs_store_tables.proofs.select.read_spans.Goals as goal

pub returns : goal.returns
returns g c =
    reads_table select_span (codes "asset" ∷ codes "route" ∷ codes "lo" ∷ codes "hi" ∷ codes "side" ∷ []) 11 span_shows span_places select_span_is span_alone span_typed (λ r. refl) (λ t. t.span) span_in (λ db. refl)
    c.args.tx.now c.query_all.new.self c.query_all.result c.query_all.ensures.same_reference c.query_all.ensures.ok c.query_all.ensures.err c.query_all.ensures.survives
