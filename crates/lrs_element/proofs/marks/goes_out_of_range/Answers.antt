use Rattle.std.proofs.Common.{sym, arith}
use Rattle.lrs_element.proofs.Lining.{in_bounds, is_out_of_range-joined}
use Rattle.lrs_element.proofs.marks.goes_out_of_range.Goals as goal

pub overflow_sub-rise : goal.overflow_sub-rise
overflow_sub-rise c = let b = in_bounds c.args.second.now c.requires.second in let l = b.below 0 b.some in rw c.last_mark-last.ensures l

pub overflow_add-result : goal.overflow_add-result
overflow_add-result c =
    let f = in_bounds c.args.first.now c.requires.first in
    let s = in_bounds c.args.second.now c.requires.second in
    rw (c.last_mark-last.ensures, c.last_mark.ensures) (omega (arith, f.small, s.small))

pub returns : goal.returns
returns c = rw (c.last_mark-last.ensures, c.last_mark.ensures) (sym (is_out_of_range-joined c.args.first.now c.args.second.now c.requires.first c.requires.second))
