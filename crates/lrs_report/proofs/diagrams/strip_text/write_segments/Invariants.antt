use Rattle.std.proofs.Common.{take}
use Rattle.std.specs.List.{flat_map}
use Rattle.std.specs.Io.KnownBytes.{Appends}
use Rattle.lrs_report.specs.Drawings.Strips.{segment_text}
use Rattle.lrs_report.proofs.diagrams.strip_text.write_segments.Given as goal

abbrev pub invariant-loop-segment : goal.invariant-loop-segment
invariant-loop-segment g l = Appends (g.W.Write.contents l.fn.writer) (g.W.Write.contents l.writer) (flat_map segment_text (take l.segment-index l.segments))
