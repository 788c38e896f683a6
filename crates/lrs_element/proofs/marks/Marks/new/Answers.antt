use Rattle.std.proofs.Common.{sym}
use Rattle.lrs_element.proofs.Lining.{are_marks-new}
use Rattle.lrs_element.proofs.marks.Marks.new.Goals as goal

pub invariant_of-result : goal.invariant_of-result
invariant_of-result c = are_marks-new c.args.len c.args.list.items (rw c.deref.ensures.value at (sym c.in-None.ensures))
