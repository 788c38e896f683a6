use Rattle.std.proofs.Common.{◌≡◌, Some, take}
use Rattle.lrs_store_tables.specs.Contents.Decoders.{counted}
use Rattle.lrs_store_image.proofs.route_decoder.groups.counted.Given as goal

abbrev pub invariant-loop-row : goal.invariant-loop-row
invariant-loop-row g l = (counted 0 (take l.row-index l.rows) ≡ Some l.found.items) × (l.n ≡ l.row-index)
