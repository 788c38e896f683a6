use Rattle.std.proofs.Common.{◌≡◌, ◌≤◌, ◌*◌, ◌^◌, ◌++◌, drop}
use Rattle.std.specs.List.{AllByRecursion, flat_map}
use Rattle.lrs_element.specs.Pieces.{IsFilled}
use Rattle.lrs_report_lists.specs.PlacedPieces.{placed_from}
use Rattle.lrs_difference.specs.Held.{held_on_piece}
use Rattle.lrs_difference.proofs.HeldPieces.{given_from}
use Rattle.lrs_difference.proofs.link_stretches.push_on_pieces.Given as goal

abbrev pub invariant-loop-piece : goal.invariant-loop-piece
invariant-loop-piece l = record {
  held : l.held.items ++ given_from (held_on_piece l.row) l.pieces l.start l.piece-index ≡ l.fn.held.items ++ flat_map (held_on_piece l.row) (placed_from 0 l.pieces);
  low : l.start ≤ 2 ^ 32 * l.piece-index;
  filled : AllByRecursion IsFilled (drop l.piece-index l.pieces);
}
