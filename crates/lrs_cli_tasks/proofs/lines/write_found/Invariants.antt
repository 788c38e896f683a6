use Rattle.std.proofs.Common.{take}
use Rattle.std.specs.List.{flat_map}
use Rattle.std.specs.Io.KnownBytes.{Appends}
use Rattle.lrs_cli_tasks.specs.Lines.{row_text}
use Rattle.lrs_cli_tasks.proofs.lines.write_found.Given as goal

abbrev pub invariant-loop-row : goal.invariant-loop-row
invariant-loop-row g l = Appends (g.W.Write.contents l.fn.writer) (g.W.Write.contents l.writer) (flat_map row_text (take l.row-index l.rows))
