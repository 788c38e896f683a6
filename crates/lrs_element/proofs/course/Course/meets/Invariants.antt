use Rattle.std.proofs.Common.{take}
use Rattle.lrs_element.specs.Course.{course_of}
use Rattle.lrs_element.proofs.Apart.{IsLeastShared}
use Rattle.lrs_element.proofs.course.Course.meets.Given as goal

abbrev pub invariant-loop-piece : goal.invariant-loop-piece
invariant-loop-piece l = IsLeastShared (course_of (take l.piece-index l.piece-items)) l.other l.least
