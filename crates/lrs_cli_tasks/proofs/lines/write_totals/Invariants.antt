use Rattle.std.proofs.Common.{take}
use Rattle.std.specs.List.{flat_map}
use Rattle.std.specs.Io.KnownBytes.{Appends}
use Rattle.lrs_cli_tasks.specs.Lines.{total_text}
use Rattle.lrs_cli_tasks.proofs.lines.write_totals.Given as goal

abbrev pub invariant-loop-total : goal.invariant-loop-total
invariant-loop-total g l = Appends (g.W.Write.contents l.fn.writer) (g.W.Write.contents l.writer) (flat_map total_text (take l.total-index l.totals))
