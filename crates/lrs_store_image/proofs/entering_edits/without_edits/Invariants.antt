use Rattle.std.proofs.Common.{◌≡◌, [], map, take}
use Rattle.lrs_store_tables.specs.Contents.Content.{with_edit}
use Rattle.lrs_store_image.proofs.entering_edits.without_edits.Given as goal

abbrev pub invariant-loop-asset : goal.invariant-loop-asset
invariant-loop-asset l = l.found.items ≡ map (with_edit []) (take l.asset-index l.assets)
