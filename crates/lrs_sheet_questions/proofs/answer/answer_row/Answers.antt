use Rattle.std.proofs.Common.{refl, inr}
use Rattle.csv.specs.Records.{fields_of}
use Rattle.lrs_sheet_questions.specs.Replies.{malformed}
use Rattle.lrs_sheet_questions.proofs.answer.answer_row.Goals as goal

pub returns-in-Ok-write_malformed-clause-replied : goal.returns-in-Ok-write_malformed-clause-replied
returns-in-Ok-write_malformed-clause-replied g c = (
  malformed (fields_of c.args.row.now) c.in-Err-Field.field,
  inr (c.in-Err-Field.field, rw c.in-Err-Field.field-0-is at c.in-Err-Field.ensures.refuses, refl),
  refl,
  rw c.in-Err-Field.field-0-is at c.in-Ok-write_malformed.ensures,
)
