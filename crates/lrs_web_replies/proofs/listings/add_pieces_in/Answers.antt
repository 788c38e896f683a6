use Rattle.std.proofs.Common.{◌≡◌, ◌+◌, ◌∙◌, ◌++◌, ◌∷◌, [], false, refl, ap, sym, get_or, arith}
use Rattle.std.specs.Prelude.{ℕ}
use Rattle.std.specs.List.{flat_map}
use Rattle.lrs_element.specs.Pieces.{piece_len}
use Rattle.lrs_element.specs.declared.link.Piece.{Piece}
use Rattle.lrs_report_lists.specs.PlacedPieces.{placed_from}
use Rattle.lrs_report_lists.proofs.Placed.{filled_next}
use Rattle.lrs_web_replies.proofs.PagedPieces.{items_end, items_from, items_next}
use Rattle.lrs_web_replies.proofs.Paging.{leads_end, leads_first, leads_next}
use Rattle.lrs_web_replies.specs.Listings.{piece_data}
use Rattle.lrs_web_replies.proofs.listings.add_pieces_in.Goals as goal

abbrev no_piece : Piece
no_piece = record { link = 0; from = 0; to = 0; forward = false }

pub loop-piece-init : goal.loop-piece-init
loop-piece-init c =
    let items = λ (one : ℕ × Piece). piece_data c.args.route.now one ∷ [] in
    record {
      added = leads_first c.args.text.now (items_from items c.args.pieces.now 0 0) (flat_map items (placed_from 0 c.args.pieces.now)) refl;
      low = omega arith;
      filled = c.requires.filled;
    }

pub len-requires : goal.len-requires
len-requires c = (filled_next c.loop-piece.piece-index c.args.pieces.now no_piece c.loop-piece-test.true c.loop-piece.invariant.filled).0

pub overflow_add-to : goal.overflow_add-to
overflow_add-to c =
    let low = c.loop-piece.invariant.low in
    let few = c.requires.few in
    let small = c.len.ensures.small in
    omega arith

pub add_piece-requires : goal.add_piece-requires
add_piece-requires c = record { end = ap (λ (n : ℕ). c.loop-piece.from + n) c.len.ensures.len }

pub loop-piece-preserved : goal.loop-piece-preserved
loop-piece-preserved c =
    let items = λ (one : ℕ × Piece). piece_data c.args.route.now one ∷ [] in
    let ps = c.args.pieces.now in
    let i = c.loop-piece.piece-index in
    let at = c.loop-piece.from in
    let p = get_or ps i no_piece in
    let low = c.loop-piece.invariant.low in
    let small = c.len.ensures.small in
    let end : at + piece_len p ≡ at + c.len.result = ap (λ (n : ℕ). at + n) (sym c.len.ensures.len) in
    record {
      added = leads_next c.args.text.now c.loop-piece.text c.add_piece.new.text (items (at, p)) (items_from items ps (at + c.len.result) (i + 1)) (items_from items ps at i)
          (flat_map items (placed_from 0 ps)) c.loop-piece.invariant.added (items_next items ps i at no_piece c.loop-piece-test.true ∙ ap (λ (n : ℕ). items (at, p) ++ items_from items ps n (i + 1)) end) c.in_ok-add_piece.ensures;
      low = omega arith;
      filled = (filled_next i ps no_piece c.loop-piece-test.true c.loop-piece.invariant.filled).1;
    }

pub returns : goal.returns
returns c =
    let items = λ (one : ℕ × Piece). piece_data c.args.route.now one ∷ [] in
    let ps = c.args.pieces.now in
    leads_end c.args.text.now c.loop-piece.text (items_from items ps c.loop-piece.from c.loop-piece.piece-index) (flat_map items (placed_from 0 ps)) c.loop-piece.invariant.added
    (items_end items ps c.loop-piece.piece-index c.loop-piece.from (omega arith))
