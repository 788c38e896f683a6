use Rattle.std.proofs.Common.{◌≡◌, take}
use Rattle.lrs_store_tables.specs.Contents.Content.{routes_named}
use Rattle.lrs_store_image.proofs.route_decoder.groups.names_of.Given as goal

abbrev pub invariant-loop-row : goal.invariant-loop-row
invariant-loop-row g l = l.names.items ≡ routes_named (take l.row-index l.rows)
