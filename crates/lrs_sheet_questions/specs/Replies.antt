-- What a record of a sheet of questions is answered.
use Rattle.std.specs.Prelude.{◌≡◌, ◌⊎◌, ◌+◌, ⊤, ℕ, Bool, true, false, not, List, [], ◌∷◌, ◌++◌, codes, Option, Some, option_map, Result, Ok, Err, if◌then◌else◌, count_by}
use Rattle.std.specs.List.{flat_map}
use Rattle.lrs_machine.specs.Keys.{is_key}
use Rattle.lrs_machine.specs.Lines.{Text}
use Rattle.lrs_machine.specs.declared.answer.Field.{Field}
use Rattle.lrs_machine.specs.declared.image.Image.{Image}
use Rattle.lrs_machine.specs.declared.question.Question.{Question}
use Rattle.lrs_sheet_records.specs.Questions.{FirstMalformedQuestion, SaysQuestion, column_text}
use Rattle.lrs_sheet_records.specs.Records.{place_of, text_at}
use Rattle.lrs_report_answers.specs.Causes.{cause_of, cause_text}
use Rattle.lrs_report_answers.specs.ToldAnswers.{IsTold}
use Rattle.lrs_report_answers.specs.declared.fault.AskFault.{AskFault}
use Rattle.lrs_report_answers.specs.declared.told.Told.{Told}
use Rattle.lrs_sheet_questions.specs.Lines.{refused_line, told_lines}
use Rattle.lrs_sheet_questions.specs.declared.tally.QuestionTally.{QuestionTally}

-- the lines that a record is answered, and whether they are an answer; else they say why the question is refused
pub record Reply : Type 0 where
  pub lines : Text
  pub is_answer : Bool

abbrev pub answered : Text → Reply
answered lines = record { lines = lines; is_answer = true }

abbrev pub refused : Text → Text → Reply
refused key cause = record { lines = refused_line key cause; is_answer = false }

-- what an inventory tells to a question, as a reply; none where it was not the question that failed
abbrev pub reply_of : Text → Result Told AskFault → Option Reply
reply_of key (Ok t) = Some (answered (told_lines key t))
reply_of key (Err fault) = option_map (λ cause. refused key (cause_text cause)) (cause_of fault)

-- the key of a record, or a dash where it is malformed
abbrev pub key_of : List Text → Text
key_of fields = if is_key (text_at fields 0) then text_at fields 0 else codes "-"

-- the first malformed column is named
abbrev pub malformed : List Text → Field → Reply
malformed fields at = refused (key_of fields) (codes "Malformed:" ++ column_text at)

-- A record is answered what the inventory tells to its question, or which of its fields is the first malformed one.
abbrev pub IsReplied : Image → List Text → Reply → Type 0
IsReplied i fields reply =
    ((key : Text) × (q : Question) × (said : Result Told AskFault) × SaysQuestion fields key q × IsTold i q said × (reply_of key said ≡ Some reply))
    ⊎ ((at : Field) × FirstMalformedQuestion fields (place_of at) × (reply ≡ malformed fields at))

-- each record has its reply
abbrev pub AreReplied : Image → List (List Text) → List Reply → Type 0
AreReplied i [] [] = ⊤
AreReplied i (fields ∷ records) (reply ∷ replies) = IsReplied i fields reply × AreReplied i records replies
AreReplied i [] (reply ∷ replies) = ⊥
AreReplied i (fields ∷ records) [] = ⊥

-- the lines of some replies
abbrev pub lines_of : List Reply → Text
lines_of replies = flat_map (λ reply. reply.lines) replies

-- how many questions are answered, and how many refused
abbrev pub tally_of : List Reply → QuestionTally
tally_of replies = record { answered = count_by (λ reply. reply.is_answer) replies; refused = count_by (λ reply. not reply.is_answer) replies }

-- a tally with one more
abbrev pub counted : QuestionTally → Bool → QuestionTally
counted tally true = record tally { answered = tally.answered + 1 }
counted tally false = record tally { refused = tally.refused + 1 }

-- how many a tally counts
abbrev pub reply_count : QuestionTally → ℕ
reply_count tally = tally.answered + tally.refused
