use Rattle.std.proofs.Common.{take}
use Rattle.std.specs.List.{flat_map}
use Rattle.std.specs.Io.KnownBytes.{Appends}
use Rattle.lrs_difference.specs.Lines.{line_text}
use Rattle.lrs_difference.proofs.text.write_lines.Given as goal

abbrev pub invariant-loop-line : goal.invariant-loop-line
invariant-loop-line g l = Appends (g.W.Write.contents l.fn.writer) (g.W.Write.contents l.writer) (flat_map line_text (take l.line-index l.lines))
