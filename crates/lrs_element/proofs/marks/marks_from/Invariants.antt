use Rattle.std.proofs.Common.{◌≡◌, ◌++◌, drop}
use Rattle.lrs_element.specs.Marks.{marks_from}
use Rattle.lrs_element.proofs.marks.marks_from.Given as goal

abbrev pub invariant-loop-mark : goal.invariant-loop-mark
invariant-loop-mark l = l.out.items ++ marks_from l.at (drop l.mark-index l.marks) ≡ marks_from l.at l.marks
