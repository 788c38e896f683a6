use Rattle.std.proofs.Common.{◌≤◌, ◌*◌, ◌^◌, drop}
use Rattle.std.specs.List.{AllByRecursion, flat_map}
use Rattle.lrs_element.specs.Pieces.{IsFilled}
use Rattle.lrs_report_lists.specs.Lines.{piece_line}
use Rattle.lrs_report_lists.specs.PlacedPieces.{placed_from}
use Rattle.lrs_report_lists.proofs.Placed.{text_from}
use Rattle.lrs_report_lists.proofs.Writing.{Leads}
use Rattle.lrs_report_lists.proofs.pieces.write_pieces_in.Given as goal

abbrev pub invariant-loop-piece : goal.invariant-loop-piece
invariant-loop-piece g l = record {
  written : Leads (g.W.Write.contents l.fn.writer) (g.W.Write.contents l.writer) (text_from (piece_line l.route) l.pieces l.at l.piece-index) (flat_map (piece_line l.route) (placed_from 0 l.pieces));
  low : l.at ≤ 2 ^ 32 * l.piece-index;
  filled : AllByRecursion IsFilled (drop l.piece-index l.pieces);
}
