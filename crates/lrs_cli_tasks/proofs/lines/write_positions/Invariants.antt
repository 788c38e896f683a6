use Rattle.std.proofs.Common.{take}
use Rattle.std.specs.List.{flat_map}
use Rattle.std.specs.Io.KnownBytes.{Appends}
use Rattle.lrs_cli_tasks.specs.Lines.{position_line}
use Rattle.lrs_cli_tasks.proofs.lines.write_positions.Given as goal

abbrev pub invariant-loop-position : goal.invariant-loop-position
invariant-loop-position g l = Appends (g.W.Write.contents l.fn.writer) (g.W.Write.contents l.writer) (flat_map position_line (take l.position-index l.positions))
