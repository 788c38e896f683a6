use Rattle.std.proofs.Common.{Bor, ◌≡◌, ◌+◌, ◌∙◌, ◌++◌, false, refl, ap, sym, get_or, arith}
use Rattle.std.specs.Prelude.{ℕ}
use Rattle.std.specs.List.{flat_map}
use Rattle.std.specs.Option.{option_map}
use Rattle.lrs_element.specs.Pieces.{piece_len}
use Rattle.lrs_element.specs.declared.link.Piece.{Piece}
use Rattle.lrs_events.specs.declared.class.Asset.{Asset}
use Rattle.lrs_report_lists.specs.PlacedPieces.{placed_from}
use Rattle.lrs_report_lists.proofs.Placed.{filled_next}
use Rattle.lrs_web_replies.proofs.PagedPieces.{items_end, items_from, items_next}
use Rattle.lrs_web_replies.proofs.Paging.{leads_end, leads_first, leads_next}
use Rattle.lrs_web_replies.specs.Listings.{link_row_items}
use Rattle.lrs_web_replies.proofs.row_lists.add_on_pieces.Goals as goal

abbrev no_piece : Piece
no_piece = record { link = 0; from = 0; to = 0; forward = false }

pub loop-piece-init : goal.loop-piece-init
loop-piece-init c =
    let items = link_row_items (option_map (λ (a : Bor Asset). a.now) c.args.asset) c.args.route.now c.args.row.now in
    record {
      added = leads_first c.args.text.now (items_from items c.args.pieces.now 0 0) (flat_map items (placed_from 0 c.args.pieces.now)) refl;
      low = omega arith;
      filled = c.requires.filled;
    }

pub add_on_piece-requires : goal.add_on_piece-requires
add_on_piece-requires c = (filled_next c.loop-piece.piece-index c.args.pieces.now no_piece c.loop-piece-test.true c.loop-piece.invariant.filled).0

pub len-start-requires : goal.len-start-requires
len-start-requires c = (filled_next c.loop-piece.piece-index c.args.pieces.now no_piece c.loop-piece-test.true c.loop-piece.invariant.filled).0

pub overflow_add-start : goal.overflow_add-start
overflow_add-start c =
    let low = c.loop-piece.invariant.low in
    let few = c.requires.few in
    let small = c.len-start.ensures.small in
    omega arith

pub loop-piece-preserved : goal.loop-piece-preserved
loop-piece-preserved c =
    let items = link_row_items (option_map (λ (a : Bor Asset). a.now) c.args.asset) c.args.route.now c.args.row.now in
    let ps = c.args.pieces.now in
    let i = c.loop-piece.piece-index in
    let at = c.loop-piece.start in
    let p = get_or ps i no_piece in
    let low = c.loop-piece.invariant.low in
    let small = c.len-start.ensures.small in
    let end : at + piece_len p ≡ at + c.len-start.result = ap (λ (n : ℕ). at + n) (sym c.len-start.ensures.len) in
    record {
      added = leads_next c.args.text.now c.loop-piece.text c.add_on_piece.new.text (items (at, p)) (items_from items ps (at + c.len-start.result) (i + 1)) (items_from items ps at i)
          (flat_map items (placed_from 0 ps)) c.loop-piece.invariant.added (items_next items ps i at no_piece c.loop-piece-test.true ∙ ap (λ (n : ℕ). items (at, p) ++ items_from items ps n (i + 1)) end) c.in_ok-add_on_piece.ensures;
      low = omega arith;
      filled = (filled_next i ps no_piece c.loop-piece-test.true c.loop-piece.invariant.filled).1;
    }

pub returns : goal.returns
returns c =
    let items = link_row_items (option_map (λ (a : Bor Asset). a.now) c.args.asset) c.args.route.now c.args.row.now in
    let ps = c.args.pieces.now in
    leads_end c.args.text.now c.loop-piece.text (items_from items ps c.loop-piece.start c.loop-piece.piece-index) (flat_map items (placed_from 0 ps)) c.loop-piece.invariant.added
    (items_end items ps c.loop-piece.piece-index c.loop-piece.start (omega arith))
