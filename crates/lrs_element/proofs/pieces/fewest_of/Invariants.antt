use Rattle.std.proofs.Common.{◌≡◌, ◌++◌, drop}
use Rattle.lrs_element.specs.Course.{course_of, IsFewest}
use Rattle.lrs_element.proofs.pieces.fewest_of.Given as goal

abbrev pub invariant-loop-piece : goal.invariant-loop-piece
invariant-loop-piece l = record {
  fewest : IsFewest l.out.items;
  course : course_of l.out.items ++ course_of (drop l.piece-index l.pieces) ≡ course_of l.pieces;
}
