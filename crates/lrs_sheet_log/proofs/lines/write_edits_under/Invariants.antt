use Rattle.std.proofs.Common.{◌≡◌, take}
use Rattle.std.specs.List.{flat_map, list_any}
use Rattle.std.specs.Io.KnownBytes.{Appends}
use Rattle.lrs_measure.specs.Texts.{same_name}
use Rattle.lrs_sheet_log.proofs.Written.{line_under}
use Rattle.lrs_sheet_log.proofs.lines.write_edits_under.Given as goal

abbrev pub invariant-loop-edit : goal.invariant-loop-edit
invariant-loop-edit g l = record {
  written : Appends (g.W.Write.contents l.fn.writer) (g.W.Write.contents l.writer) (flat_map (line_under l.key) (take l.edit-index l.edits));
  found : l.found ≡ list_any (λ row. same_name row.key l.key) (take l.edit-index l.edits);
}
