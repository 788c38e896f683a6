use Rattle.std.proofs.Common.{◌≡◌, ◌++◌, drop}
use Rattle.lrs_element.specs.Marks.{marks_to}
use Rattle.lrs_element.proofs.marks.marks_to.Given as goal

abbrev pub invariant-loop-mark : goal.invariant-loop-mark
invariant-loop-mark l = l.out.items ++ marks_to l.at (drop l.mark-index l.marks) ≡ marks_to l.at l.marks
