use Rattle.std.proofs.Common.{take}
use Rattle.std.specs.List.{flat_map}
use Rattle.std.specs.Io.KnownBytes.{Appends}
use Rattle.lrs_report_lists.specs.Parts.{entered_line_of}
use Rattle.lrs_report_lists.proofs.history.write_each_entered.Given as goal

abbrev pub invariant-loop-part : goal.invariant-loop-part
invariant-loop-part g l = Appends (g.W.Write.contents l.fn.writer) (g.W.Write.contents l.writer) (flat_map (entered_line_of l.asset l.edits) (take l.part-index l.entered))
