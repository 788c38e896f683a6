use Rattle.std.proofs.Common.{take}
use Rattle.std.specs.Io.KnownBytes.{Appends}
use Rattle.lrs_report_answers.specs.Overlay.{next_fields}
use Rattle.lrs_report_answers.proofs.overlay_lines.write_names.Given as goal

abbrev pub invariant-loop-class : goal.invariant-loop-class
invariant-loop-class g l = Appends (g.W.Write.contents l.fn.writer) (g.W.Write.contents l.writer) (next_fields (take l.class-index l.classes))
