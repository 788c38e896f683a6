use Rattle.std.proofs.Common.{◌≡◌, map, take}
use Rattle.lrs_store_tables.specs.StoredRows.{mark_in}
use Rattle.lrs_store_image.proofs.cells.marks.Given as goal

abbrev pub invariant-loop-row : goal.invariant-loop-row
invariant-loop-row l = l.found.items ≡ map mark_in (take l.row-index l.rows)
