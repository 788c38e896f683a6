-- The records of a sheet of questions one at a time: what answering those under a header gives.
use Rattle.std.specs.Prelude.{◌≤◌, ◌≡◌, ⊤, ℕ, List, Option, Some, length, Result, Ok, Err}
use Rattle.csv.specs.Reading.{expected_len}
use Rattle.csv.specs.declared.reader.Reader.{Reader}
use Rattle.lrs_machine.specs.Lines.{Text}
use Rattle.lrs_machine.specs.declared.image.Image.{Image}
use Rattle.lrs_sheet_records.specs.Rows.{Begins, EndsAfter, Gave, IsPlain, NextDiffers}
use Rattle.lrs_sheet_records.specs.Rows.{max_records}
use Rattle.lrs_sheet_records.specs.declared.fault.SheetFault.{SheetFault}
use Rattle.lrs_sheet_records.specs.declared.fault.SheetFault.TheVariants as fault
use Rattle.lrs_sheet_questions.specs.SheetAnswers.{AreAnswered, width}
use Rattle.lrs_sheet_questions.specs.Replies.{Reply, reply_count, tally_of}
use Rattle.lrs_sheet_questions.specs.declared.tally.QuestionTally.{QuestionTally}

-- some of the next records are answered
abbrev pub AnswersSome : {R : Type 0} → Image → (R → Option Text) → Reader R → Option Text → Option Text → Type 0
AnswersSome i remaining reader old new = (records : List (List Text)) × (replies : List Reply) × AreAnswered i records replies old new × Begins remaining reader records

-- what answering the records under a header gives
abbrev pub AnswersRows : {R : Type 0} → Image → (R → Option Text) → Reader R → Option Text → Option Text → Result QuestionTally SheetFault → Type 0
AnswersRows i remaining reader old new (Ok tally) =
    (records : List (List Text)) × (replies : List Reply) × AreAnswered i records replies old new × (tally ≡ tally_of replies) × EndsAfter remaining reader records × (length records ≤ max_records)
AnswersRows i remaining reader old new (Err fault.BadCsv) =
    (records : List (List Text)) × (replies : List Reply) × AreAnswered i records replies old new × NextDiffers remaining reader records width
AnswersRows i remaining reader old new (Err fault.BadHeader) = ⊥
AnswersRows i remaining reader old new (Err fault.Read) = AnswersSome i remaining reader old new
AnswersRows i remaining reader old new (Err fault.Memory) = AnswersSome i remaining reader old new
AnswersRows i remaining reader old new (Err fault.Write) = ⊤
AnswersRows i remaining reader old new (Err (fault.Desk e)) = ⊥

-- after some turns of the loop over the records
pub record HasAnswered {R : Type 0} (i : Image) (remaining : R → Option Text) (first now : Reader R) (old new : Option Text) (tally : QuestionTally) (turns : ℕ) : Type 0 where
  pub records : List (List Text)
  pub replies : List Reply
  pub plain : IsPlain now
  pub wide : expected_len now ≡ Some width
  pub gave : Gave remaining first now records
  pub answered : AreAnswered i records replies old new
  pub counts : tally ≡ tally_of replies
  pub few : reply_count tally ≡ turns
  pub in_turn : length records ≡ turns
