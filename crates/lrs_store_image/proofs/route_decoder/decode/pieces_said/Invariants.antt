use Rattle.std.proofs.Common.{◌≡◌, Some, take}
use Rattle.lrs_store_tables.specs.Contents.Decoders.{each_of, piece_of}
use Rattle.lrs_store_image.proofs.route_decoder.decode.pieces_said.Given as goal

abbrev pub invariant-loop-row : goal.invariant-loop-row
invariant-loop-row l = each_of piece_of (take l.row-index l.rows) ≡ Some l.found.items
