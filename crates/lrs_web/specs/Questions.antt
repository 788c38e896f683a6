-- What a sheet of questions over HTTP is answered.
use Rattle.std.specs.Prelude.{◌≡◌, ◌⊎◌, true, [], Some, Result}
use Rattle.lrs_machine.specs.Lines.{Text}
use Rattle.lrs_machine.specs.declared.image.Image.{Image}
use Rattle.lrs_sheet.specs.DeskView.{DeskView}
use Rattle.lrs_sheet_records.specs.declared.fault.SheetFault.{SheetFault}
use Rattle.lrs_sheet_questions.specs.SheetAnswers.{RunsQuestions}
use Rattle.lrs_sheet_questions.specs.declared.tally.QuestionTally.{QuestionTally}
use Rattle.lrs_web_requests.specs.Text.{Answer, empty_answer}
use Rattle.lrs_web.specs.Sheets.{IsAnswerAfter}

-- the questions are run over an image, which gives these lines, and this is the reply to that run
abbrev pub RepliesToQuestions : Image → Text → Answer → Type 0
RepliesToQuestions i input answer =
    (ended : Result QuestionTally SheetFault) × (lines : Text) × RunsQuestions i input (Some []) (Some lines) ended × IsAnswerAfter ended lines answer

-- A sheet of questions is answered at a desk, and leaves it as it is. It has an empty 503 where memory runs out, or the reply would have more bytes than it may, and once a commit of several commands has failed: the image may be ahead of what is kept then.
abbrev pub AnswersQuestions : {K : Type 0} → Text → DeskView K → Answer → DeskView K → Type 0
AnswersQuestions input old answer new =
    (new ≡ old) × (RepliesToQuestions old.image input answer ⊎ (answer ≡ empty_answer 503)) × (old.is_ahead ≡ true → answer ≡ empty_answer 503)
