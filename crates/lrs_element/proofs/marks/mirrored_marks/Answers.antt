use Rattle.std.proofs.Common.{◌-◌, arith}
use Rattle.lrs_element.proofs.Lining.{in_bounds}
use Rattle.lrs_element.proofs.marks.mirrored_marks.Goals as goal

pub overflow_add-ends : goal.overflow_add-ends
overflow_add-ends c =
    let b = in_bounds c.args.marks.now c.requires in
    let l = b.below 0 b.some in
    rw c.last_mark-end.ensures (omega (arith, b.small, l))

pub overflow_sub-end : goal.overflow_sub-end
overflow_sub-end c =
    let b = (in_bounds c.args.marks.now c.requires).chainage (c.loop-i.i - 1) (omega (arith, c.loop-i.auto.i, c.loop-i-test.true)) in
    rw c.last_mark-end.ensures b

pub overflow_sub-ends : goal.overflow_sub-ends
overflow_sub-ends c =
    let b = (in_bounds c.args.marks.now c.requires).below (c.loop-i.i - 1) (omega (arith, c.loop-i.auto.i, c.loop-i-test.true)) in
    rw c.last_mark-end.ensures (omega (arith, b))
