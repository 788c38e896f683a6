use Rattle.std.proofs.Common.{take}
use Rattle.std.specs.List.{flat_map}
use Rattle.std.specs.Io.KnownBytes.{Appends}
use Rattle.lrs_cli_tasks.specs.Lines.{hit_text}
use Rattle.lrs_cli_tasks.proofs.lines.write_hits.Given as goal

abbrev pub invariant-loop-hit : goal.invariant-loop-hit
invariant-loop-hit g l = Appends (g.W.Write.contents l.fn.writer) (g.W.Write.contents l.writer) (flat_map hit_text (take l.hit-index l.hits))
