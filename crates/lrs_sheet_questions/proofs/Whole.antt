-- A whole sheet of questions, from its header on.
use Rattle.std.proofs.Common.{◌≡◌, ℕ, List, [], ◌∷◌, Option, Some, None, refl, inl, inr, Result, Ok, Err}
use Rattle.std.specs.Prelude.{IfSome}
use Rattle.std.specs.Io.KnownBytes.{Keeps}
use Rattle.csv.proofs.WriteFacts.{appends-none}
use Rattle.csv.specs.Reading.{expected_len}
use Rattle.csv.specs.declared.reader.Reader.{Reader}
use Rattle.lrs_machine.specs.declared.image.Image.{Image}
use Rattle.lrs_sheet_records.specs.Rows.{EndsAfter, Gave, HasRead, IsReadFault}
use Rattle.lrs_sheet_records.specs.declared.fault.SheetFault.{SheetFault}
use Rattle.lrs_sheet_records.specs.declared.fault.SheetFault.TheVariants as fault
use Rattle.lrs_sheet_records.specs.Questions.{IsQuestionHeader}
use Rattle.lrs_sheet_questions.specs.SheetAnswers.{AnswersRecords, RunsQuestions, WritesAnswers}
use Rattle.lrs_sheet_questions.specs.Replies.{tally_of}
use Rattle.lrs_sheet_questions.specs.Rows.{AnswersRows}
use Rattle.lrs_sheet_questions.specs.declared.tally.QuestionTally.{QuestionTally}

pub keeps-same : (contents : Option (List ℕ)) → Keeps contents contents
keeps-same None = tt
keeps-same (Some bytes) = refl

-- the first read failed
pub unread : {R : Type 0} (i : Image) (rem : R → Option (List ℕ)) (rows : Reader R) (known contents : Option (List ℕ)) (e : SheetFault) → expected_len rows ≡ None → IsReadFault rem rows e
    → IfSome known (λ input. RunsQuestions i input contents contents (Err e))
unread i rem rows None contents e first why = tt
unread i rem rows (Some input) contents fault.Read first why = inl (keeps-same contents)
unread i rem rows (Some input) contents fault.Memory first why = inl (keeps-same contents)
unread i rem rows (Some input) contents fault.Write first why = tt
unread i rem rows (Some input) contents fault.BadHeader first why = absurd why
unread i rem rows (Some input) contents (fault.Desk m) first why = absurd why
unread i rem rows (Some input) contents fault.BadCsv first (wanted, expected, next) = absurd (cc (first, expected))

-- no record is answered
pub none-answered : (i : Image) (contents : Option (List ℕ)) → AnswersRecords i contents contents
none-answered i contents = ([], [], record { width = tt; replied = tt; written = appends-none contents })

-- ... where the first read failed
pub unread-writes : {R : Type 0} (i : Image) (rem : R → Option (List ℕ)) (rows : Reader R) (contents : Option (List ℕ)) (e : SheetFault) → IsReadFault rem rows e → WritesAnswers i contents contents (Err e)
unread-writes i rem rows contents fault.Read why = none-answered i contents
unread-writes i rem rows contents fault.Memory why = none-answered i contents
unread-writes i rem rows contents fault.BadCsv why = none-answered i contents
unread-writes i rem rows contents fault.Write why = absurd why
unread-writes i rem rows contents fault.BadHeader why = absurd why
unread-writes i rem rows contents (fault.Desk m) why = absurd why

-- ... or where there was none
pub empty-writes : (i : Image) (contents : Option (List ℕ)) (tally : QuestionTally) → tally ≡ tally_of [] → WritesAnswers i contents contents (Ok tally)
empty-writes i contents tally none = ([], [], record { width = tt; replied = tt; written = appends-none contents }, none)

-- the records under the header are answered
pub rows-write : {R : Type 0} (i : Image) (rem : R → Option (List ℕ)) (rows : Reader R) (old new : Option (List ℕ)) (result : Result QuestionTally SheetFault) → AnswersRows i rem rows old new result → WritesAnswers i old new result
rows-write i rem rows old new (Ok tally) (records, replies, answered, counts, ends, few) = (records, replies, answered, counts)
rows-write i rem rows old new (Err fault.BadCsv) (records, replies, answered, differs) = (records, replies, answered)
rows-write i rem rows old new (Err fault.Read) (records, replies, answered, begins) = (records, replies, answered)
rows-write i rem rows old new (Err fault.Memory) (records, replies, answered, begins) = (records, replies, answered)
rows-write i rem rows old new (Err fault.Write) does = tt
rows-write i rem rows old new (Err fault.BadHeader) does = absurd does
rows-write i rem rows old new (Err (fault.Desk e)) does = absurd does

-- a sheet with no record
pub empty-sheet : {R : Type 0} (i : Image) (rem : R → Option (List ℕ)) (rows : Reader R) (known contents : Option (List ℕ)) (tally : QuestionTally)
    → IfSome known (λ input. HasRead rem rows input []) → EndsAfter rem rows [] → tally ≡ tally_of [] → IfSome known (λ input. RunsQuestions i input contents contents (Ok tally))
empty-sheet i rem rows None contents tally start ends none = tt
empty-sheet i rem rows (Some input) contents tally start ends none = inl (ends input [] start, keeps-same contents, none)

-- a sheet of another header
pub bad-header : {R : Type 0} (i : Image) (rem : R → Option (List ℕ)) (rows next : Reader R) (known contents : Option (List ℕ)) (fields : List (List ℕ))
    → IfSome known (λ input. HasRead rem rows input []) → Gave rem rows next (fields ∷ []) → (IsQuestionHeader fields → ⊥) → IfSome known (λ input. RunsQuestions i input contents contents (Err fault.BadHeader))
bad-header i rem rows next None contents fields start gave other = tt
bad-header i rem rows next (Some input) contents fields start gave other =
    let (rest, source, reached) = gave input [] start in
    (fields, (next.state, rest, reached), other, keeps-same contents)

-- the records under the header
pub under-header : {R : Type 0} (i : Image) (rem : R → Option (List ℕ)) (rows next : Reader R) (known old new : Option (List ℕ)) (fields : List (List ℕ)) (result : Result QuestionTally SheetFault)
    → IfSome known (λ input. HasRead rem rows input []) → Gave rem rows next (fields ∷ []) → IsQuestionHeader fields → AnswersRows i rem next old new result
    → IfSome known (λ input. RunsQuestions i input old new result)
under-header i rem rows next None old new fields result start gave header does = tt
under-header i rem rows next (Some input) old new fields (Ok tally) start gave header (records, replies, answered, counts, ends, few) =
    inr (fields, records, replies, header, ends input (fields ∷ []) (gave input [] start), answered, counts, few)
under-header i rem rows next (Some input) old new fields (Err fault.BadCsv) start gave header (records, replies, answered, differs) =
    let (bad, front, other) = differs input (fields ∷ []) (gave input [] start) in
    (fields, records, bad, replies, header, front, other, answered)
under-header i rem rows next (Some input) old new fields (Err fault.Read) start gave header (records, replies, answered, begins) =
    inr (fields, records, replies, header, begins input (fields ∷ []) (gave input [] start), answered)
under-header i rem rows next (Some input) old new fields (Err fault.Memory) start gave header (records, replies, answered, begins) =
    inr (fields, records, replies, header, begins input (fields ∷ []) (gave input [] start), answered)
under-header i rem rows next (Some input) old new fields (Err fault.Write) start gave header does = tt
under-header i rem rows next (Some input) old new fields (Err fault.BadHeader) start gave header does = absurd does
under-header i rem rows next (Some input) old new fields (Err (fault.Desk e)) start gave header does = absurd does
