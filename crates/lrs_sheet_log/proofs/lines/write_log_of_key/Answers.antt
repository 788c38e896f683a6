use Rattle.std.proofs.Common.{◌++◌, List, ℕ, ap, ◌∙◌}
use Rattle.std.specs.List.{flat_map, list_any}
use Rattle.lrs_measure.specs.Texts.{same_name}
use Rattle.lrs_machine.specs.Image.{state_of}
use Rattle.lrs_machine.specs.declared.image.Edit.{Edit}
use Rattle.lrs_image.specs.OpenLists.{image_of}
use Rattle.lrs_sheet_records.specs.Kinds.{edit_header}
use Rattle.lrs_sheet_log.specs.Log.{edits_text, edits_under, record_text}
use Rattle.lrs_sheet_log.proofs.Written.{any-under, appends-last, line_under, ok-as, rows-under}
use Rattle.lrs_sheet_log.proofs.lines.write_log_of_key.Goals as goal

pub returns-clause-written : goal.returns-clause-written
returns-clause-written g c =
    let start = g.W.Write.contents c.args.writer.now in
    let image = image_of c.args.kept.now in
    let key = c.args.key.now in
    let rows = ap (λ (es : List Edit). flat_map (line_under key) es) c.deref.ensures.value ∙ rows-under image key in
    appends-last c.write_edits_under.result start (g.W.Write.contents c.write_header.new.writer) (g.W.Write.contents c.write_edits_under.new.writer) _ _ (edits_text (edits_under key (state_of image).done))
    c.in_ok-write_header.ensures c.write_edits_under.ensures.written (ap (λ (t : List ℕ). record_text edit_header ++ t) rows)

pub returns-clause-found : goal.returns-clause-found
returns-clause-found g c =
    let image = image_of c.args.kept.now in
    let key = c.args.key.now in
    ok-as c.write_edits_under.result _ _ c.write_edits_under.ensures.found (ap (λ (es : List Edit). list_any (λ edit. same_name edit.key key) es) c.deref.ensures.value ∙ any-under image key)
