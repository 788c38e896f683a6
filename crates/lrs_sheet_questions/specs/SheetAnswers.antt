-- What a sheet of questions is answered: the reply to its bytes, over an image, and each fault where it is due.
use Rattle.std.specs.Prelude.{◌≤◌, ◌≡◌, ◌⊎◌, ⊤, ℕ, List, [], ◌∷◌, ◌++◌, Option, length, IfSome, Result, Ok, Err}
use Rattle.std.specs.List.{AllByRecursion}
use Rattle.std.specs.Io.KnownBytes.{Appends, Keeps}
use Rattle.lrs_machine.specs.Lines.{Text}
use Rattle.lrs_machine.specs.declared.image.Image.{Image}
use Rattle.lrs_sheet_records.specs.Rows.{AreAll, BeginsWith, max_records}
use Rattle.lrs_sheet_records.specs.declared.fault.SheetFault.{SheetFault}
use Rattle.lrs_sheet_records.specs.declared.fault.SheetFault.TheVariants as fault
use Rattle.lrs_sheet_records.specs.Questions.{IsQuestionHeader, question_header}
use Rattle.lrs_sheet_questions.specs.Replies.{AreReplied, Reply, lines_of, tally_of}
use Rattle.lrs_sheet_questions.specs.declared.tally.QuestionTally.{QuestionTally}

-- how many fields each record has
abbrev pub width : ℕ
width = length question_header

-- each record has as many fields as the header
abbrev pub HaveWidth : List (List Text) → Type 0
HaveWidth records = AllByRecursion (λ fields. length fields ≡ width) records

-- The records are answered in order, and the lines of their replies are written.
pub record AreAnswered (i : Image) (records : List (List Text)) (replies : List Reply) (old new : Option Text) : Type 0 where
  pub width : HaveWidth records
  pub replied : AreReplied i records replies
  pub written : Appends old new (lines_of replies)

-- The reply to the whole sheet: to an empty one, or to the records under its header.
abbrev pub AnswersAll : Image → Text → Option Text → Option Text → QuestionTally → Type 0
AnswersAll i input old new tally =
    (AreAll input [] × Keeps old new × (tally ≡ tally_of []))
    ⊎ ((header : List Text) × (records : List (List Text)) × (replies : List Reply) × IsQuestionHeader header × AreAll input (header ∷ records)
    × AreAnswered i records replies old new × (tally ≡ tally_of replies) × (length records ≤ max_records))

-- The first record is not the header, and nothing is written.
abbrev pub HasBadHeader : Text → Option Text → Option Text → Type 0
HasBadHeader input old new = (header : List Text) × BeginsWith input (header ∷ []) × (IsQuestionHeader header → ⊥) × Keeps old new

-- A record has not as many fields as the header, and those before it are answered.
abbrev pub HasBadRecord : Image → Text → Option Text → Option Text → Type 0
HasBadRecord i input old new =
    (header : List Text) × (records : List (List Text)) × (fields : List Text) × (replies : List Reply) × IsQuestionHeader header
    × BeginsWith input (header ∷ (records ++ fields ∷ [])) × (length fields ≡ width → ⊥) × AreAnswered i records replies old new

-- Some records at the front of the sheet are answered, and nothing else is written.
abbrev pub HasAnsweredSome : Image → Text → Option Text → Option Text → Type 0
HasAnsweredSome i input old new =
    Keeps old new
    ⊎ ((header : List Text) × (records : List (List Text)) × (replies : List Reply) × IsQuestionHeader header × BeginsWith input (header ∷ records)
    × AreAnswered i records replies old new)

-- What a sheet of questions is answered. A writer that fails may have part of the lines, and the desk never fails.
abbrev pub RunsQuestions : Image → Text → Option Text → Option Text → Result QuestionTally SheetFault → Type 0
RunsQuestions i input old new (Ok tally) = AnswersAll i input old new tally
RunsQuestions i input old new (Err fault.BadHeader) = HasBadHeader input old new
RunsQuestions i input old new (Err fault.BadCsv) = HasBadRecord i input old new
RunsQuestions i input old new (Err fault.Read) = HasAnsweredSome i input old new
RunsQuestions i input old new (Err fault.Memory) = HasAnsweredSome i input old new
RunsQuestions i input old new (Err fault.Write) = ⊤
RunsQuestions i input old new (Err (fault.Desk e)) = ⊥

-- Some records are answered in order, and nothing else is written.
abbrev pub AnswersRecords : Image → Option Text → Option Text → Type 0
AnswersRecords i old new = (records : List (List Text)) × (replies : List Reply) × AreAnswered i records replies old new

-- What is written whatever the reader gives: the answers to some records, which are counted; under another header none. The desk never fails.
abbrev pub WritesAnswers : Image → Option Text → Option Text → Result QuestionTally SheetFault → Type 0
WritesAnswers i old new (Ok tally) = (records : List (List Text)) × (replies : List Reply) × AreAnswered i records replies old new × (tally ≡ tally_of replies)
WritesAnswers i old new (Err fault.BadHeader) = Keeps old new
WritesAnswers i old new (Err fault.BadCsv) = AnswersRecords i old new
WritesAnswers i old new (Err fault.Read) = AnswersRecords i old new
WritesAnswers i old new (Err fault.Memory) = AnswersRecords i old new
WritesAnswers i old new (Err fault.Write) = ⊤
WritesAnswers i old new (Err (fault.Desk e)) = ⊥

-- A sheet of questions was asked so: its bytes, where they are known, are answered as the inventory tells, and the answers are written. Where they are not known, some records are answered so. It is no fault of the desk that ends it.
pub record HasAsked (i : Image) (known old new : Option Text) (outcome : Result QuestionTally SheetFault) : Type 0 where
  pub runs : IfSome known (λ input. RunsQuestions i input old new outcome)
  pub writes : WritesAnswers i old new outcome
