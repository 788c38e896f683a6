-- A sheet of questions that is answered over a writer that is put before another and taken away again.
use Rattle.std.proofs.Common.{ℕ, List, Option, Some, None, Result, Ok, Err, inl, inr}
use Rattle.std.specs.Prelude.{IfSome}
use Rattle.std.specs.Io.KnownBytes.{Keeps}
use Rattle.lrs_machine.specs.declared.image.Image.{Image}
use Rattle.lrs_sheet_records.specs.declared.fault.SheetFault.{SheetFault}
use Rattle.lrs_sheet_records.specs.declared.fault.SheetFault.TheVariants as fault
use Rattle.lrs_sheet_questions.specs.SheetAnswers.{AreAnswered, HasAnsweredSome, HasAsked, RunsQuestions, WritesAnswers}
use Rattle.lrs_sheet_questions.specs.Replies.{Reply}
use Rattle.lrs_sheet_questions.specs.declared.tally.QuestionTally.{QuestionTally}
use Rattle.lrs_cli_sheets.proofs.Between.{appends-between, keeps-between}

module _ (i : Image) (first old new last : Option (List ℕ)) (kept : Keeps first old) (keeps : Keeps new last) where
  answered-between : (records : List (List (List ℕ))) (replies : List Reply) → AreAnswered i records replies old new → AreAnswered i records replies first last
  answered-between records replies answered = record {
    width = answered.width;
    replied = answered.replied;
    written = appends-between first old new last _ kept keeps answered.written;
  }

  some-between : (input : List ℕ) → HasAnsweredSome i input old new → HasAnsweredSome i input first last
  some-between input (inl same) = inl (keeps-between first old new last kept keeps same)
  some-between input (inr (header, records, replies, is, begins, answered)) = inr (header, records, replies, is, begins, answered-between records replies answered)

  runs-between : (input : List ℕ) (result : Result QuestionTally SheetFault) → RunsQuestions i input old new result → RunsQuestions i input first last result
  runs-between input (Ok tally) (inl (all, same, counts)) = inl (all, keeps-between first old new last kept keeps same, counts)
  runs-between input (Ok tally) (inr (header, records, replies, is, all, answered, counts, few)) = inr (header, records, replies, is, all, answered-between records replies answered, counts, few)
  runs-between input (Err fault.BadHeader) (header, begins, other, same) = (header, begins, other, keeps-between first old new last kept keeps same)
  runs-between input (Err fault.BadCsv) (header, records, fields, replies, is, begins, differs, answered) = (header, records, fields, replies, is, begins, differs, answered-between records replies answered)
  runs-between input (Err fault.Read) some = some-between input some
  runs-between input (Err fault.Memory) some = some-between input some
  runs-between input (Err fault.Write) run = run
  runs-between input (Err (fault.Desk e)) run = run

  writes-between : (result : Result QuestionTally SheetFault) → WritesAnswers i old new result → WritesAnswers i first last result
  writes-between (Ok tally) (records, replies, answered, counts) = (records, replies, answered-between records replies answered, counts)
  writes-between (Err fault.BadHeader) same = keeps-between first old new last kept keeps same
  writes-between (Err fault.BadCsv) (records, replies, answered) = (records, replies, answered-between records replies answered)
  writes-between (Err fault.Read) (records, replies, answered) = (records, replies, answered-between records replies answered)
  writes-between (Err fault.Memory) (records, replies, answered) = (records, replies, answered-between records replies answered)
  writes-between (Err fault.Write) writes = tt
  writes-between (Err (fault.Desk e)) writes = writes

known-between : (i : Image) (known first old new last : Option (List ℕ)) (result : Result QuestionTally SheetFault) → Keeps first old → Keeps new last
    → IfSome known (λ input. RunsQuestions i input old new result) → IfSome known (λ input. RunsQuestions i input first last result)
known-between i None first old new last result kept keeps runs = tt
known-between i (Some input) first old new last result kept keeps runs = runs-between i first old new last kept keeps input result runs

-- the same where it may be unknown what the reader has left
pub asked-between : (i : Image) (known first old new last : Option (List ℕ)) (outcome : Result QuestionTally SheetFault)
    → Keeps first old → Keeps new last → HasAsked i known old new outcome → HasAsked i known first last outcome
asked-between i known first old new last outcome kept keeps asked = record { runs = known-between i known first old new last outcome kept keeps asked.runs; writes = writes-between i first old new last kept keeps outcome asked.writes }
