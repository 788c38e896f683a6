use Rattle.std.proofs.Common.{sym, ◌∙◌}
use Rattle.csv.specs.Records.{fields_of}
use Rattle.lrs_machine.specs.Image.{state_of}
use Rattle.lrs_sheet.proofs.Resuming.{malformed_edit, not_edit}
use Rattle.lrs_sheet.proofs.resumption.key_of_edit.Goals as goal

pub returns-in-Err-Field-clause-none : goal.returns-in-Err-Field-clause-none
returns-in-Err-Field-clause-none g c = malformed_edit c.args.row.now.sheet (state_of c.args.desk.now.image) (fields_of c.args.row.now.fields.now) c.in-Err-Field.field-0-0 (rw c.in-Err-Field.field-0-is at c.in-Err-Field.ensures.refuses)

pub returns-clause-none : goal.returns-clause-none
returns-clause-none g c = not_edit c.args.row.now.sheet (state_of c.args.desk.now.image) (fields_of c.args.row.now.fields.now) _ _ c.in-Ok.ensures.says (sym c.in-None.is ∙ c.in_ok-edit_of.ensures.edit)
