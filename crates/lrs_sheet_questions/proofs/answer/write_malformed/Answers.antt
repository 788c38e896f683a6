use Rattle.csv.specs.Records.{fields_of}
use Rattle.lrs_sheet_questions.proofs.Answered.{key_of_malformed}
use Rattle.lrs_sheet_questions.proofs.answer.write_malformed.Goals as goal

pub returns-in-None : goal.returns-in-None
returns-in-None g c = rw (key_of_malformed (fields_of c.args.row.now) (rw c.text_at.ensures at c.in-None.ensures), ← c.column_name-column.ensures) c.write_column.ensures
