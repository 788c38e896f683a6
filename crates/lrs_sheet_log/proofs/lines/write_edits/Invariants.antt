use Rattle.std.proofs.Common.{take}
use Rattle.std.specs.List.{flat_map}
use Rattle.std.specs.Io.KnownBytes.{Appends}
use Rattle.lrs_sheet_log.specs.Log.{row_line}
use Rattle.lrs_sheet_log.proofs.lines.write_edits.Given as goal

abbrev pub invariant-loop-edit : goal.invariant-loop-edit
invariant-loop-edit g l = Appends (g.W.Write.contents l.fn.writer) (g.W.Write.contents l.writer) (flat_map row_line (take l.edit-index l.edits))
