use Rattle.std.proofs.Common.{Bor, ◌≤◌, ◌*◌, ◌^◌, drop}
use Rattle.std.specs.List.{AllByRecursion, flat_map}
use Rattle.std.specs.Option.{option_map}
use Rattle.lrs_element.specs.Pieces.{IsFilled}
use Rattle.lrs_events.specs.declared.class.Asset.{Asset}
use Rattle.lrs_report_lists.specs.LinkRows.{on_piece_text}
use Rattle.lrs_report_lists.specs.PlacedPieces.{placed_from}
use Rattle.lrs_report_lists.proofs.Placed.{text_from}
use Rattle.lrs_report_lists.proofs.Writing.{Leads}
use Rattle.lrs_report_lists.proofs.link_rows.write_on_pieces.Given as goal

abbrev pub invariant-loop-piece : goal.invariant-loop-piece
invariant-loop-piece g l = record {
  written : Leads (g.W.Write.contents l.fn.writer) (g.W.Write.contents l.writer) (text_from (on_piece_text (option_map (λ (a : Bor Asset). a.now) l.asset) l.route l.row) l.pieces l.start l.piece-index)
      (flat_map (on_piece_text (option_map (λ (a : Bor Asset). a.now) l.asset) l.route l.row) (placed_from 0 l.pieces));
  low : l.start ≤ 2 ^ 32 * l.piece-index;
  filled : AllByRecursion IsFilled (drop l.piece-index l.pieces);
}
