use Rattle.std.proofs.Common.{◌++◌, ◌-◌, List, ℕ, ap, drop, ◌∙◌}
use Rattle.std.specs.List.{flat_map}
use Rattle.lrs_machine.specs.declared.image.Edit.{Edit}
use Rattle.lrs_image.specs.OpenLists.{image_of}
use Rattle.lrs_sheet_records.specs.Kinds.{edit_header}
use Rattle.lrs_sheet_log.specs.Log.{log_text, record_text, row_line, up_to}
use Rattle.lrs_sheet_log.proofs.Written.{appends-last, rows-between}
use Rattle.lrs_sheet_log.proofs.lines.write_log.Goals as goal

pub returns : goal.returns
returns g c =
    let start = g.W.Write.contents c.args.writer.now in
    let image = image_of c.args.kept.now in
    let first = c.up_to.ensures ∙ ap (λ (es : List Edit). up_to c.args.until es) c.deref.ensures.value in
    let rest = c.rest_from.ensures ∙ ap (λ (es : List Edit). drop (c.args.from - 1) es) first in
    let rows = ap (λ (es : List Edit). flat_map row_line es) rest ∙ rows-between image c.args.from c.args.until in
    appends-last c.write_edits.result start (g.W.Write.contents c.write_header.new.writer) (g.W.Write.contents c.write_edits.new.writer) _ _ (log_text c.args.from c.args.until image)
    c.in_ok-write_header.ensures c.write_edits.ensures (ap (λ (t : List ℕ). record_text edit_header ++ t) rows)
