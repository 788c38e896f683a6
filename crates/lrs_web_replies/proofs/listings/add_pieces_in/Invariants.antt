use Rattle.std.proofs.Common.{◌∷◌, [], drop, ◌≤◌, ◌*◌, ◌^◌}
use Rattle.std.specs.List.{AllByRecursion, flat_map}
use Rattle.lrs_element.specs.Pieces.{IsFilled}
use Rattle.lrs_report_lists.specs.PlacedPieces.{placed_from}
use Rattle.lrs_web_replies.proofs.PagedPieces.{items_from}
use Rattle.lrs_web_replies.proofs.Paging.{Leads}
use Rattle.lrs_web_replies.specs.Listings.{piece_data}
use Rattle.lrs_web_replies.proofs.listings.add_pieces_in.Given as goal

-- the pieces from the next one on are still to be added
abbrev pub invariant-loop-piece : goal.invariant-loop-piece
invariant-loop-piece l = record {
  added : Leads l.fn.text l.text (items_from (λ one. piece_data l.route one ∷ []) l.pieces l.from l.piece-index)
      (flat_map (λ one. piece_data l.route one ∷ []) (placed_from 0 l.pieces));
  low : l.from ≤ 2 ^ 32 * l.piece-index;
  filled : AllByRecursion IsFilled (drop l.piece-index l.pieces);
}
