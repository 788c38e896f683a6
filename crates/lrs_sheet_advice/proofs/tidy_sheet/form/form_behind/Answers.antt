use Rattle.std.proofs.Common.{◌∙◌}
use Rattle.lrs_sheet_records.specs.Kinds.{edit_fields}
use Rattle.lrs_sheet_advice.proofs.TidyForms.{form_in_place}
use Rattle.lrs_sheet_advice.proofs.tidy_sheet.form.form_behind.Goals as goal

pub returns : goal.returns
returns c = c.form_of.ensures ∙ form_in_place (edit_fields c.args.row.now) c.args.place c.verb_of-verb.result c.field_of-field.result c.slot_of-slot.result c.requires.behind c.field_of-field.ensures c.verb_of-verb.ensures c.slot_of-slot.ensures
