use Rattle.lrs_promises.proofs.Ends.{question_sheets_end_alike}
use Rattle.lrs_promises.proofs.determinism.a_sheet_of_questions_determines_its_answers.Goals as goal

pub returns : goal.returns
returns c = question_sheets_end_alike
