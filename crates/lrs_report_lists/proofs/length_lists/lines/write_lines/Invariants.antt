use Rattle.std.proofs.Common.{take}
use Rattle.std.specs.List.{flat_map}
use Rattle.std.specs.Io.KnownBytes.{Appends}
use Rattle.lrs_report_lists.specs.Length.Lines.{length_line}
use Rattle.lrs_report_lists.proofs.length_lists.lines.write_lines.Given as goal

abbrev pub invariant-loop-row : goal.invariant-loop-row
invariant-loop-row g l = Appends (g.W.Write.contents l.fn.writer) (g.W.Write.contents l.writer) (flat_map length_line (take l.row-index l.rows))
