use Rattle.std.proofs.Common.{[], ◌∷◌, refl, codes}
use Rattle.lrs_store_tables.specs.Schema.{select_link}
use Rattle.lrs_store_tables.specs.StoredRows.{link_in, link_places}
use Rattle.lrs_store_tables.proofs.SelectStatements.{link_shows, select_link_is}
use Rattle.lrs_store_tables.proofs.AloneStatements.{link_alone, link_typed}
use Rattle.lrs_store_tables.proofs.TableReadLemmas.{reads_table}
use Rattle.lrs_store_tables.proofs.select.read_links.Goals as goal

pub returns : goal.returns
returns g c =
    reads_table select_link (codes "number" ∷ codes "length" ∷ []) 1 link_shows link_places select_link_is link_alone link_typed (λ r. refl) (λ t. t.link) link_in (λ db. refl)
    c.args.tx.now c.query_all.new.self c.query_all.result c.query_all.ensures.same_reference c.query_all.ensures.ok c.query_all.ensures.err c.query_all.ensures.survives
