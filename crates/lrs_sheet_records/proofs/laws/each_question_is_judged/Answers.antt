use Rattle.lrs_sheet_records.proofs.OneQuestion.{questions_are_judged}
use Rattle.lrs_sheet_records.proofs.laws.each_question_is_judged.Goals as goal

pub returns : goal.returns
returns c = questions_are_judged
