use Rattle.std.proofs.Common.{◌≡◌, ◌+◌, ◌≤◌, ◌++◌, drop, length}
use Rattle.lrs_element.specs.Course.{course_of, IsFewest}
use Rattle.lrs_element.proofs.Walking.{range}
use Rattle.lrs_element.proofs.pieces.push_range.Given as goal

abbrev pub invariant-loop-piece : goal.invariant-loop-piece
invariant-loop-piece l = record {
  fewest : IsFewest l.out.items;
  added : course_of l.out.items ++ range l.from l.to (course_of (drop l.piece-index l.pieces)) ≡ course_of l.fn.out.items ++ range l.fn.from l.fn.to (course_of l.pieces);
  count : length l.out.items ≤ length l.fn.out.items + l.piece-index;
}
