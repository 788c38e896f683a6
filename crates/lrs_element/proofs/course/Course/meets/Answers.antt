use Rattle.std.proofs.Common.{sym, ◌∙◌}
use Rattle.lrs_element.proofs.Apart.{least_step_same, least_step_lesser}
use Rattle.lrs_element.proofs.course.Course.meets.Goals.{then-covers, else-covers}
use Rattle.lrs_element.proofs.course.Course.meets.Goals as goal

pub loop-piece-preserved : goal.loop-piece-preserved
loop-piece-preserved c = elim c.if-covers.branch [
  | then-covers w ↦ rw (w.least-is, w.lesser.ensures) (least_step_lesser c.deref-piece-items.result.now c.loop-piece.piece-index _ _ _ c.loop-piece-test.true c.loop-piece.invariant (sym c.covers.ensures ∙ w.if-covers.true))
  | else-covers w ↦ rw w.least-is (least_step_same c.deref-piece-items.result.now c.loop-piece.piece-index _ _ _ c.loop-piece-test.true c.loop-piece.invariant (sym c.covers.ensures ∙ w.if-covers.false))
]
