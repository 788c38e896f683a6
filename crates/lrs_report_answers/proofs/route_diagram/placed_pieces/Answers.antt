use Rattle.std.proofs.Common.{◌≡◌, ◌+◌, ◌∙◌, ◌++◌, [], ◌∷◌, false, refl, ap, sym, subst, get_or, drop, arith}
use Rattle.std.specs.Prelude.{ℕ, List}
use Rattle.lrs_element.specs.declared.link.Piece.{Piece}
use Rattle.lrs_report.specs.declared.diagrams.diagram.DrawnPiece.{DrawnPiece}
use Rattle.lrs_report_answers.specs.DrawnRows.{placed}
use Rattle.lrs_report_answers.proofs.Banded.{few_pieces, filled_next, placed_end, placed_more}
use Rattle.lrs_report_answers.proofs.route_diagram.placed_pieces.Goals as goal

abbrev no_piece : Piece
no_piece = record { link = 0; from = 0; to = 0; forward = false }

pub loop-piece-init : goal.loop-piece-init
loop-piece-init c = record {
  placed = ap (λ (done : List DrawnPiece). done ++ placed 0 c.pieces-piece-items.result.now) c.new-placed.ensures.items;
  low = omega arith;
  few = few_pieces c.args.course.now c.pieces-piece-items.result.now c.pieces-piece-items.ensures.course c.pieces-piece-items.ensures.fewest c.pieces-piece-items.ensures.limits;
  filled = c.pieces-piece-items.ensures.fewest.filled;
}

pub len-requires : goal.len-requires
len-requires c = (filled_next c.loop-piece.piece-index c.pieces-piece-items.result.now no_piece c.loop-piece-test.true c.loop-piece.invariant.filled).0

pub overflow_add-to : goal.overflow_add-to
overflow_add-to c =
    let low = c.loop-piece.invariant.low in
    let few = c.loop-piece.invariant.few in
    let small = c.len.ensures.small in
    omega arith

pub loop-piece-preserved : goal.loop-piece-preserved
loop-piece-preserved c =
    let ps = c.pieces-piece-items.result.now in
    let p = get_or ps c.loop-piece.piece-index no_piece in
    let f = c.loop-piece.from in
    let rest = drop (c.loop-piece.piece-index + 1) ps in
    let low = c.loop-piece.invariant.low in
    let small = c.len.ensures.small in
    record {
      placed = ap (λ (items : List DrawnPiece). items ++ placed (f + c.len.result) rest) c.in_ok-push.ensures.items
          ∙ ap (λ (n : ℕ). (c.loop-piece.placed.items ++ record { from = f; to = f + n; piece = p } ∷ []) ++ placed (f + n) rest) c.len.ensures.len
          ∙ placed_more c.loop-piece.piece-index f ps no_piece c.loop-piece.placed.items (placed 0 ps) c.loop-piece-test.true c.loop-piece.invariant.placed;
      low = omega arith;
      few = c.loop-piece.invariant.few;
      filled = (filled_next c.loop-piece.piece-index ps no_piece c.loop-piece-test.true c.loop-piece.invariant.filled).1;
    }

pub returns : goal.returns
returns c =
    let ps = c.pieces-piece-items.result.now in (
      ps,
      c.pieces-piece-items.ensures.course,
      c.pieces-piece-items.ensures.fewest,
      c.from_vec.ensures ∙ placed_end c.loop-piece.piece-index c.loop-piece.from ps c.loop-piece.placed.items (placed 0 ps) (omega arith) c.loop-piece.invariant.placed,
    )
