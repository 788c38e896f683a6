use Rattle.std.proofs.Common.{Bor, drop, ◌≤◌, ◌*◌, ◌^◌}
use Rattle.std.specs.List.{AllByRecursion, flat_map}
use Rattle.std.specs.Option.{option_map}
use Rattle.lrs_element.specs.Pieces.{IsFilled}
use Rattle.lrs_events.specs.declared.class.Asset.{Asset}
use Rattle.lrs_report_lists.specs.PlacedPieces.{placed_from}
use Rattle.lrs_web_replies.proofs.PagedPieces.{items_from}
use Rattle.lrs_web_replies.proofs.Paging.{Leads}
use Rattle.lrs_web_replies.specs.Listings.{link_row_items}
use Rattle.lrs_web_replies.proofs.row_lists.add_on_pieces.Given as goal

-- what the row has of the pieces from the next one on is still to be added
abbrev pub invariant-loop-piece : goal.invariant-loop-piece
invariant-loop-piece l = record {
  added : Leads l.fn.text l.text
      (items_from (link_row_items (option_map (λ (x : Bor Asset). x.now) l.asset) l.route l.row) l.pieces l.start l.piece-index)
      (flat_map (link_row_items (option_map (λ (x : Bor Asset). x.now) l.asset) l.route l.row) (placed_from 0 l.pieces));
  low : l.start ≤ 2 ^ 32 * l.piece-index;
  filled : AllByRecursion IsFilled (drop l.piece-index l.pieces);
}
