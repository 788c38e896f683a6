use Rattle.std.specs.List.{flat_map, range_with_len}
use Rattle.std.specs.Io.KnownBytes.{Appends}
use Rattle.lrs_report.specs.Drawings.Axis.{shown_tick}
use Rattle.lrs_report.proofs.diagrams.axis.write_ticks.Given as goal

abbrev pub invariant-loop-i : goal.invariant-loop-i
invariant-loop-i g l = Appends (g.W.Write.contents l.fn.writer) (g.W.Write.contents l.writer) (flat_map (shown_tick l.scale) (range_with_len 0 l.i))
