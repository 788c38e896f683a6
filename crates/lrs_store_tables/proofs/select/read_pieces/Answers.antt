use Rattle.std.proofs.Common.{[], ◌∷◌, refl, codes}
use Rattle.lrs_store_tables.specs.Schema.{select_piece}
use Rattle.lrs_store_tables.specs.StoredRows.{piece_in, piece_places}
use Rattle.lrs_store_tables.proofs.SelectStatements.{piece_shows, select_piece_is}
use Rattle.lrs_store_tables.proofs.AloneStatements.{piece_alone, piece_typed}
use Rattle.lrs_store_tables.proofs.TableReadLemmas.{reads_table}
use Rattle.lrs_store_tables.proofs.select.read_pieces.Goals as goal

pub returns : goal.returns
returns g c =
    reads_table select_piece (codes "route" ∷ codes "n" ∷ codes "link" ∷ codes "a" ∷ codes "b" ∷ codes "dir" ∷ []) 5 piece_shows piece_places select_piece_is piece_alone piece_typed (λ r. refl) (λ t. t.piece) piece_in (λ db. refl)
    c.args.tx.now c.query_all.new.self c.query_all.result c.query_all.ensures.same_reference c.query_all.ensures.ok c.query_all.ensures.err c.query_all.ensures.survives
