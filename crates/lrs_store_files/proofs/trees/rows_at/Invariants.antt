use Rattle.std.proofs.Common.{◌≡◌, ◌++◌, map, length}
use Rattle.std.specs.Vec.Iter.{into_iter_items, into_iter_len}
use Rattle.sqlite_value.specs.Order.{column}
use Rattle.lrs_store_files.proofs.trees.rows_at.Given as goal

abbrev pub invariant-loop-row : goal.invariant-loop-row
invariant-loop-row l =
    (l.shown.items ++ map (λ r. map (column r) l.fn.places) (into_iter_items l.row-iterator) ≡ map (λ r. map (column r) l.fn.places) l.fn.rows.items)
    × (into_iter_len l.row-iterator ≡ length (into_iter_items l.row-iterator))
