use Rattle.std.proofs.Common.{◌≡◌, ◌+◌, ◌∙◌, ◌++◌, false, refl, ap, sym, get_or, arith}
use Rattle.std.specs.Prelude.{ℕ}
use Rattle.std.specs.List.{flat_map}
use Rattle.lrs_element.specs.Pieces.{piece_len}
use Rattle.lrs_element.specs.declared.link.Piece.{Piece}
use Rattle.lrs_report_lists.specs.PlacedPieces.{placed_from}
use Rattle.lrs_report_lists.proofs.Placed.{filled_next}
use Rattle.lrs_difference.specs.Held.{held_on_piece}
use Rattle.lrs_difference.proofs.HeldPieces.{given_end, given_from, given_next, more, none_more}
use Rattle.lrs_difference.proofs.link_stretches.push_on_pieces.Goals as goal

abbrev no_piece : Piece
no_piece = record { link = 0; from = 0; to = 0; forward = false }

pub loop-piece-init : goal.loop-piece-init
loop-piece-init c = record { held = refl; low = omega arith; filled = c.requires.filled }

pub push_on_piece-requires : goal.push_on_piece-requires
push_on_piece-requires c = (filled_next c.loop-piece.piece-index c.args.pieces.now no_piece c.loop-piece-test.true c.loop-piece.invariant.filled).0

pub len-start-requires : goal.len-start-requires
len-start-requires c = (filled_next c.loop-piece.piece-index c.args.pieces.now no_piece c.loop-piece-test.true c.loop-piece.invariant.filled).0

pub overflow_add-start : goal.overflow_add-start
overflow_add-start c =
    let low = c.loop-piece.invariant.low in
    let few = c.requires.few in
    let small = c.len-start.ensures.small in
    omega arith

pub loop-piece-preserved : goal.loop-piece-preserved
loop-piece-preserved c =
    let f = held_on_piece c.args.row.now in
    let ps = c.args.pieces.now in
    let i = c.loop-piece.piece-index in
    let at = c.loop-piece.start in
    let p = get_or ps i no_piece in
    let low = c.loop-piece.invariant.low in
    let small = c.len-start.ensures.small in
    let end : at + piece_len p ≡ at + c.len-start.result = ap (λ (n : ℕ). at + n) (sym c.len-start.ensures.len) in
    record {
      held = more (c.args.held.now.items ++ flat_map f (placed_from 0 ps)) c.loop-piece.held.items c.push_on_piece.new.held.items (f (at, p)) (given_from f ps at i) (given_from f ps (at + c.len-start.result) (i + 1)) c.loop-piece.invariant.held
          (given_next f ps i at no_piece c.loop-piece-test.true ∙ ap (λ (n : ℕ). f (at, p) ++ given_from f ps n (i + 1)) end) c.in_ok-push_on_piece.ensures;
      low = omega arith;
      filled = (filled_next i ps no_piece c.loop-piece-test.true c.loop-piece.invariant.filled).1;
    }

pub returns : goal.returns
returns c =
    let f = held_on_piece c.args.row.now in
    let ps = c.args.pieces.now in
    none_more (c.args.held.now.items ++ flat_map f (placed_from 0 ps)) c.loop-piece.held.items (given_from f ps c.loop-piece.start c.loop-piece.piece-index) c.loop-piece.invariant.held (given_end f ps c.loop-piece.piece-index c.loop-piece.start (omega arith))
