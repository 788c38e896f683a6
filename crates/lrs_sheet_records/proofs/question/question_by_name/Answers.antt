use Rattle.lrs_sheet_records.specs.Kinds.{edit_fields}
use Rattle.lrs_sheet_records.specs.Questions.{name_of}
use Rattle.lrs_sheet_records.proofs.Asked.{is-asked, reads-question}
use Rattle.lrs_sheet_records.proofs.question.question_by_name.Goals as goal

pub returns-in-Some : goal.returns-in-Some
returns-in-Some c = reads-question (edit_fields c.args.row.now) (name_of c.in-Some.asked) c.question_of.result (is-asked c.in-Some.asked) (rw c.text_at.ensures at c.in-Some.ensures.known) c.question_of.ensures
