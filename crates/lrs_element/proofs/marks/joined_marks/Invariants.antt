use Rattle.std.proofs.Common.{◌≡◌, ◌++◌, drop, map}
use Rattle.lrs_element.specs.Lines.{moved_on}
use Rattle.lrs_element.proofs.marks.joined_marks.Given as goal

abbrev pub invariant-loop-i : goal.invariant-loop-i
invariant-loop-i l = l.out.items ++ map (moved_on l.end l.start) (drop l.i l.second) ≡ l.first ++ map (moved_on l.end l.start) (drop 1 l.second)
