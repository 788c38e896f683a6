use Rattle.std.proofs.Common.{map, take}
use Rattle.std.specs.Io.KnownBytes.{Appends}
use Rattle.lrs_report.specs.Drawings.Strips.{columns_text, value_text}
use Rattle.lrs_report.proofs.diagrams.strip_text.write_values.Given as goal

abbrev pub invariant-loop-value : goal.invariant-loop-value
invariant-loop-value g l = Appends (g.W.Write.contents l.fn.writer) (g.W.Write.contents l.writer) (columns_text (map value_text (take l.value-index l.values)))
