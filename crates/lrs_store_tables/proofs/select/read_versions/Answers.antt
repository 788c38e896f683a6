use Rattle.std.proofs.Common.{[], ◌∷◌, refl, codes}
use Rattle.lrs_store_tables.specs.Schema.{select_version}
use Rattle.lrs_store_tables.specs.StoredRows.{version_in, version_places}
use Rattle.lrs_store_tables.proofs.SelectStatements.{version_shows, select_version_is}
use Rattle.lrs_store_tables.proofs.AloneStatements.{version_alone, version_typed}
use Rattle.lrs_store_tables.proofs.TableReadLemmas.{reads_table}
use Rattle.lrs_store_tables.proofs.select.read_versions.Goals as goal

pub returns : goal.returns
returns g c =
    reads_table select_version (codes "v" ∷ []) 0 version_shows version_places select_version_is version_alone version_typed (λ r. refl) (λ t. t.version) version_in (λ db. refl)
    c.args.tx.now c.query_all.new.self c.query_all.result c.query_all.ensures.same_reference c.query_all.ensures.ok c.query_all.ensures.err c.query_all.ensures.survives
