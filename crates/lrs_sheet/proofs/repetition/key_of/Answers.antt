use Rattle.csv.specs.Records.{fields_of}
use Rattle.lrs_sheet.proofs.Repeating.{malformed_key}
use Rattle.lrs_sheet.proofs.repetition.key_of.Goals as goal

pub returns-in-Err-Field-clause-none : goal.returns-in-Err-Field-clause-none
returns-in-Err-Field-clause-none c = malformed_key c.args.row.now.sheet (fields_of c.args.row.now.fields.now) c.in-Err-Field.field-0-0 (rw c.in-Err-Field.field-0-is at c.in-Err-Field.ensures.refuses)
