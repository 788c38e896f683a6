use Rattle.std.proofs.Common.{◌≡◌, Some, take}
use Rattle.lrs_store_tables.specs.Contents.Decoders.{each_of, referent_of}
use Rattle.lrs_store_image.specs.DecodedRoutes.Marks.{known, is_name_of}
use Rattle.lrs_store_image.proofs.route_decoder.referents.referents_said.Given as goal

abbrev pub invariant-loop-row : goal.invariant-loop-row
invariant-loop-row l = each_of (known referent_of (is_name_of l.names)) (take l.row-index l.rows) ≡ Some l.found.items
