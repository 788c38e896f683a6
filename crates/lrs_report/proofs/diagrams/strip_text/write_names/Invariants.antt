use Rattle.std.proofs.Common.{take}
use Rattle.std.specs.Io.KnownBytes.{Appends}
use Rattle.lrs_report.specs.Drawings.Strips.{columns_text}
use Rattle.lrs_report.proofs.diagrams.strip_text.write_names.Given as goal

abbrev pub invariant-loop-name : goal.invariant-loop-name
invariant-loop-name g l = Appends (g.W.Write.contents l.fn.writer) (g.W.Write.contents l.writer) (columns_text (take l.name-index l.wanted))
