use Rattle.std.proofs.Common.{◌≡◌, Some, take}
use Rattle.lrs_store_tables.specs.Contents.Decoders.{each_of, edit_of}
use Rattle.lrs_store_tables.specs.StoredRows.{edit_in}
use Rattle.lrs_store_image.proofs.edits.all_said.Given as goal

abbrev pub invariant-loop-row : goal.invariant-loop-row
invariant-loop-row l = each_of (λ r. edit_of (edit_in r)) (take l.row-index l.rows) ≡ Some l.found.items
