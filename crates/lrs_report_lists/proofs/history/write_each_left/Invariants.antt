use Rattle.std.proofs.Common.{take}
use Rattle.std.specs.List.{flat_map}
use Rattle.std.specs.Io.KnownBytes.{Appends}
use Rattle.lrs_report_lists.specs.Parts.{left_line_of}
use Rattle.lrs_report_lists.proofs.history.write_each_left.Given as goal

abbrev pub invariant-loop-gone : goal.invariant-loop-gone
invariant-loop-gone g l = Appends (g.W.Write.contents l.fn.writer) (g.W.Write.contents l.writer) (flat_map (left_line_of l.asset l.edits) (take l.gone-index l.ledger))
