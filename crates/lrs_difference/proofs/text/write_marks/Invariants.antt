use Rattle.std.proofs.Common.{take}
use Rattle.std.specs.Io.KnownBytes.{Appends}
use Rattle.lrs_machine.specs.Lines.{marks_text}
use Rattle.lrs_difference.proofs.text.write_marks.Given as goal

abbrev pub invariant-loop-i : goal.invariant-loop-i
invariant-loop-i g l = Appends (g.W.Write.contents l.fn.writer) (g.W.Write.contents l.writer) (marks_text (take l.i l.marks))
