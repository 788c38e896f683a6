use Rattle.std.proofs.Common.{◌≡◌, ◌+◌, ◌≤◌, length, drop}
use Rattle.lrs_element.specs.Course.{course_of, turned, IsFewest}
use Rattle.lrs_element.proofs.pieces.turned_pieces.Given as goal

abbrev pub invariant-loop-i : goal.invariant-loop-i
invariant-loop-i l = record {
  fewest : IsFewest l.out.items;
  turned : course_of l.out.items ≡ turned (course_of (drop l.i l.pieces));
  count : length l.out.items + l.i ≤ length l.pieces;
}
