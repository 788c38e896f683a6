-- What a sheet over HTTP is answered.
use Rattle.std.specs.Prelude.{◌≡◌, ◌⊎◌, ℕ, Bool, true, false, [], ◌∷◌, ◌++◌, Option, Some, None, Result, Ok, Err, codes}
use Rattle.lrs_machine.specs.Image.{state_of}
use Rattle.lrs_machine.specs.Lines.{Text}
use Rattle.lrs_machine.specs.State.{State}
use Rattle.lrs_machine.specs.declared.image.Image.{Image}
use Rattle.lrs_machine.specs.declared.table.Table.{Table}
use Rattle.lrs_sheet.specs.DeskView.{DeskView}
use Rattle.lrs_sheet.specs.declared.repetition.RepeatedKey.{RepeatedKey}
use Rattle.lrs_sheet.specs.declared.reply.Tally.{Tally}
use Rattle.lrs_sheet_records.specs.declared.fault.SheetFault.{SheetFault}
use Rattle.lrs_sheet_records.specs.declared.fault.SheetFault.TheVariants as fault
use Rattle.lrs_sheet_records.specs.declared.sheet.Sheet.{Sheet}
use Rattle.lrs_sheet.specs.Repetition.{IsRepeated}
use Rattle.lrs_sheet.specs.Runs.{IsResumedRun, IsWholeRun}
use Rattle.lrs_sheet.specs.Sheets.{records_together}
use Rattle.lrs_sheet.specs.Trials.{IsTried}
use Rattle.lrs_sheet_advice.specs.AdviceLines.{lines_text}
use Rattle.lrs_sheet_advice.specs.Refusals.{refusals}
use Rattle.lrs_web_requests.specs.declared.request.Course.{Course}
use Rattle.lrs_web_requests.specs.declared.request.Course.TheVariants as course
use Rattle.lrs_web_requests.specs.declared.response.ContentType.{ContentType}
use Rattle.lrs_web_requests.specs.declared.response.ContentType.TheVariants.{Csv}
use Rattle.lrs_web_requests.specs.Text.{Answer, empty_answer}

-- the content type of lines; where there are none, the reply has no body and names no type
abbrev pub type_of_lines : Text → Option ContentType
type_of_lines [] = None
type_of_lines (byte ∷ bytes) = Some Csv

-- a reply of lines
abbrev pub lines_answer : ℕ → Text → Answer
lines_answer status lines = record { status = status; content_type = type_of_lines lines; allow = None; body = lines }

-- the reply to a sheet that is at fault: the lines so far, and one that names the fault
abbrev pub fault_answer : Text → Text → Answer
fault_answer line lines = lines_answer 422 (lines ++ line)

-- the reply to a sheet whose run ended so, and wrote these lines; what it counted plays no part
abbrev pub answer_after : {X : Type 0} → Result X SheetFault → Text → Answer
answer_after (Ok counted) lines = lines_answer 200 lines
answer_after (Err fault.BadHeader) lines = fault_answer (codes "-,fault,BadHeader\n") lines
answer_after (Err fault.BadCsv) lines = fault_answer (codes "-,fault,BadCsv\n") lines
answer_after (Err fault.Read) lines = empty_answer 503
answer_after (Err fault.Write) lines = empty_answer 503
answer_after (Err (fault.Desk e)) lines = empty_answer 503
answer_after (Err fault.Memory) lines = empty_answer 503

-- A sheet is run at a desk, as a whole, or behind its last record that is an edit.
abbrev pub IsRunSo : {K : Type 0} → (K → Result Image Table → Type 0) → Sheet → Bool → Text → DeskView K → DeskView K → Text → Text → Result Tally SheetFault → Type 0
IsRunSo holds sheet false input before after old new = IsWholeRun holds sheet records_together (Some input) before after (Some old) (Some new)
IsRunSo holds sheet true input before after old new = IsResumedRun holds sheet records_together input before after (Some old) (Some new)

-- the reply to such a run; where memory runs out for it, or it would have more bytes than it may, there is an empty 503 in its place
abbrev pub IsAnswerAfter : {X : Type 0} → Result X SheetFault → Text → Answer → Type 0
IsAnswerAfter ended lines answer = (answer ≡ answer_after ended lines) ⊎ (answer ≡ empty_answer 503)

-- A sheet is run so, and answered.
abbrev pub RunsSheet : {K : Type 0} → (K → Result Image Table → Type 0) → Sheet → Bool → Text → DeskView K → Answer → DeskView K → Type 0
RunsSheet holds sheet resumes input old answer new =
    (ended : Result Tally SheetFault) × (lines : Text) × IsRunSo holds sheet resumes input old new [] lines ended × IsAnswerAfter ended lines answer

-- A key stands twice in a sheet, which does not go on: nothing is done, and one line names the fault; or there is no memory for it.
abbrev pub RefusesRepetition : {K : Type 0} → Sheet → Text → DeskView K → Answer → DeskView K → Type 0
RefusesRepetition sheet input old answer new =
    (twice : RepeatedKey) × IsRepeated sheet input twice × (new ≡ old) × ((answer ≡ fault_answer (codes "-,fault,RepeatedKey\n") []) ⊎ (answer ≡ empty_answer 503))

-- ---- all of a sheet, or nothing

-- A sheet was tried from a state, and these are the lines of its replies.
abbrev pub WasTried : Sheet → Text → State → Text → Result Tally SheetFault → Type 0
WasTried sheet input before replies outcome = (made : State) × IsTried sheet 0 input before made replies outcome

-- the trial ran to the end of the sheet, and refused no record
abbrev pub IsAccepted : Result Tally SheetFault → Type 0
IsAccepted (Ok tally) = tally.refused ≡ 0
IsAccepted (Err e) = ⊥

-- the reply to a sheet that is refused as a whole, with these lines: a conflict, or the fault of the sheet behind them
abbrev pub refused_answer : Result Tally SheetFault → Text → Answer
refused_answer (Ok tally) lines = lines_answer 409 lines
refused_answer (Err e) lines = answer_after {X = Tally} (Err e) lines

-- the reply to a sheet of which the trial refused something: of its lines those that refuse a record, so that none says what is not done
abbrev pub refusal_after : Result Tally SheetFault → Text → Answer
refusal_after outcome replies = refused_answer outcome (lines_text (refusals replies))

-- Where the trial refused nothing, the sheet is done; where it refused something, nothing is done.
abbrev pub DoesTried : {K : Type 0} → (K → Result Image Table → Type 0) → Sheet → Text → Text → Result Tally SheetFault → DeskView K → Answer → DeskView K → Type 0
DoesTried holds sheet input replies outcome old answer new =
    (IsAccepted outcome × RunsSheet holds sheet false input old answer new)
    ⊎ ((IsAccepted outcome → ⊥) × (new ≡ old) × (answer ≡ refusal_after outcome replies))

-- Nothing is done, and there is an empty 503.
abbrev pub IsUndone : {K : Type 0} → DeskView K → Answer → DeskView K → Type 0
IsUndone old answer new = (new ≡ old) × (answer ≡ empty_answer 503)

-- A sheet is tried, and done if nothing of it is refused. Or it is not tried, or the reply would have more bytes than it may, or its client is gone: nothing is done then. Nothing is tried once a commit of several commands has failed.
abbrev pub DoesAllOrNone : {K : Type 0} → (K → Result Image Table → Type 0) → Sheet → Text → DeskView K → Answer → DeskView K → Type 0
DoesAllOrNone holds sheet input old answer new =
    ((old.is_ahead ≡ false) × (replies : Text) × (outcome : Result Tally SheetFault) × WasTried sheet input (state_of old.image) replies outcome
    × DoesTried holds sheet input replies outcome old answer new)
    ⊎ IsUndone old answer new

-- A sheet is done at a desk in its way, and answered.
abbrev pub DoesSheet : {K : Type 0} → (K → Result Image Table → Type 0) → Sheet → Course → Text → DeskView K → Answer → DeskView K → Type 0
DoesSheet holds sheet course.EachRecord input old answer new = RunsSheet holds sheet false input old answer new
DoesSheet holds sheet course.BehindLast input old answer new = RunsSheet holds sheet true input old answer new ⊎ RefusesRepetition sheet input old answer new
DoesSheet holds sheet course.AllOrNone input old answer new = DoesAllOrNone holds sheet input old answer new
