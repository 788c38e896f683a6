-- The records of a sheet one at a time: what a reader of records has given, and what one turn over them does.
use Rattle.std.specs.Prelude.{◌≤◌, ◌≡◌, ℕ, List, [], ◌∷◌, ◌++◌, Option, Some, false, length, Result, Ok, Err, ⊤}
use Rattle.std.specs.Io.KnownBytes.{Appends}
use Rattle.csv.specs.Reading.{Reached, Ready, default_config, expected_len, is_flexible, reader_config, reader_state, reader_trim, source_of, strip_bom}
use Rattle.csv.specs.declared.error.ErrorKind.{ErrorKind}
use Rattle.csv.specs.declared.error.ErrorKind.TheVariants as kind
use Rattle.csv.specs.declared.parser.State.TheVariants as st
use Rattle.csv.specs.declared.reader.Reader.{Reader}
use Rattle.csv.specs.declared.reader.Trim.TheVariants as trim
use Rattle.lrs_machine.specs.Image.{state_of}
use Rattle.lrs_machine.specs.Lines.{Text}
use Rattle.lrs_machine.specs.State.{State}
use Rattle.lrs_machine.specs.declared.answer.Limits.{Limits}
use Rattle.lrs_machine.specs.declared.image.Image.{Image}
use Rattle.lrs_machine.specs.declared.table.Table.{Table}
use Rattle.lrs_desk.specs.DeskView.{DeskView}
use Rattle.lrs_machine.specs.declared.stops.fault.Fault.TheVariants as stop
use Rattle.lrs_sheet.specs.declared.reply.Reply.{Reply}
use Rattle.lrs_sheet.specs.declared.reply.Tally.{Tally}
use Rattle.lrs_sheet.specs.declared.run.Run.{Run}
use Rattle.lrs_sheet_records.specs.declared.fault.SheetFault.{SheetFault}
use Rattle.lrs_sheet_records.specs.declared.fault.SheetFault.TheVariants as fault
use Rattle.lrs_sheet_records.specs.declared.sheet.Sheet.{Sheet}
use Rattle.lrs_sheet_records.specs.Kinds.{width_of}
use Rattle.lrs_sheet_records.specs.Rows.{Begins, EndsAfter, Gave, IsPlain, NextDiffers}
use Rattle.lrs_sheet.specs.Replies.{IsReplied, Replied, answer_count, counted, reply_text, tally_of}
use Rattle.lrs_sheet_records.specs.Rows.{AreAll, BeginsWith, max_records}
use Rattle.lrs_sheet.specs.Sheets.{AreAnswered, ComeNext, GoesAlong, HaveWidth, LeavesDesk, RecordsInFlight, StandsForEither}

-- some of the next records are done and answered
abbrev pub AnswersSome : {R : Type 0} → Sheet → (R → Option Text) → Reader R → Limits → State → State → Option Text → Option Text → Type 0
AnswersSome sheet remaining reader limits before after old new =
    (records : List (List Text)) × (replies : List Reply) × AreAnswered sheet limits before records replies after old new × Begins remaining reader records

-- ... and those after them are not
abbrev pub Stops : {R : Type 0} → Sheet → ℕ → (R → Option Text) → Reader R → Limits → State → State → Option Text → Option Text → Type 0
Stops sheet together remaining reader limits before after old new =
    (records : List (List Text)) × (further : List (List Text)) × (replies : List Reply) × ComeNext sheet together further × AreAnswered sheet limits before records replies after old new
    × Begins remaining reader (records ++ further)

-- a commit failed: some of the next records are done and answered, and of the further ones the first are in flight
pub record FailsToKeep {R : Type 0} (sheet : Sheet) (together : ℕ) (remaining : R → Option Text) (reader : Reader R) (limits : Limits) (before after : State) (old new : Option Text) : Type 0 where
  pub records : List (List Text)
  pub further : List (List Text)
  pub replies : List Reply
  pub settled : State
  pub come_next : ComeNext sheet together further
  pub answered : AreAnswered sheet limits before records replies settled old new
  pub begins : Begins remaining reader (records ++ further)
  pub flight : RecordsInFlight sheet together limits settled further after

-- some of the next records are done, one at least
abbrev pub DoesUpTo : {R : Type 0} → Sheet → (R → Option Text) → Reader R → Limits → State → State → Type 0
DoesUpTo sheet remaining reader limits before after =
    (records : List (List Text)) × (further : List (List Text)) × (replies : List Reply) × (1 ≤ length records) × HaveWidth sheet records × Replied sheet limits before records replies after
    × Begins remaining reader (records ++ further)

-- what doing the records under a header gives
abbrev pub DoesRows : {R : Type 0} → Sheet → ℕ → (R → Option Text) → Reader R → Limits → State → State → Option Text → Option Text → Result Tally SheetFault → Type 0
DoesRows sheet together remaining reader limits before after old new (Ok tally) =
    (records : List (List Text)) × (replies : List Reply) × AreAnswered sheet limits before records replies after old new
    × (tally ≡ tally_of replies) × EndsAfter remaining reader records × (length records ≤ max_records)
DoesRows sheet together remaining reader limits before after old new (Err fault.BadCsv) =
    (records : List (List Text)) × (replies : List Reply) × AreAnswered sheet limits before records replies after old new
    × NextDiffers remaining reader records (width_of sheet)
DoesRows sheet together remaining reader limits before after old new (Err fault.BadHeader) = ⊥
DoesRows sheet together remaining reader limits before after old new (Err fault.Read) = AnswersSome sheet remaining reader limits before after old new
DoesRows sheet together remaining reader limits before after old new (Err fault.Write) = DoesUpTo sheet remaining reader limits before after
DoesRows sheet together remaining reader limits before after old new (Err (fault.Desk stop.Memory)) = Stops sheet together remaining reader limits before after old new
DoesRows sheet together remaining reader limits before after old new (Err (fault.Desk stop.MustReopen)) = Stops sheet together remaining reader limits before after old new
DoesRows sheet together remaining reader limits before after old new (Err (fault.Desk stop.Keep)) = FailsToKeep sheet together remaining reader limits before after old new
DoesRows sheet together remaining reader limits before after old new (Err fault.Memory) = AnswersSome sheet remaining reader limits before after old new

-- ... and what the keeper has stands for the state of the records that have lines, or for that after all in flight
abbrev pub BreaksAfter : {R : Type 0} → Sheet → ℕ → (R → Option Text) → Reader R → Limits → State → State → Option Text → Option Text → Result Image Table → Type 0
BreaksAfter sheet together remaining reader limits before after old new content =
    (failed : FailsToKeep sheet together remaining reader limits before after old new) × StandsForEither content failed.settled failed.flight.next

-- The records under a header are done: what that gives, and what it leaves of the desk and of its keeper.
pub record IsRunOfRows {R K : Type 0} (holds : K → Result Image Table → Type 0) (run : Run) (remaining : R → Option Text) (reader : Reader R) (before after : DeskView K) (old new : Option Text) (result : Result Tally SheetFault) : Type 0 where
  pub rows : DoesRows run.sheet run.together remaining reader before.limits (state_of before.image) (state_of after.image) old new result
  pub desk : LeavesDesk holds before after result
  pub broken : result ≡ Err (fault.Desk stop.Keep) → (c : Result Image Table) → holds after.keeper c
      → BreaksAfter run.sheet run.together remaining reader before.limits (state_of before.image) (state_of after.image) old new c
  pub still : result ≡ Err (fault.Desk stop.Keep) → run.together ≡ 1 → after.is_ahead ≡ false

-- a record is answered, its line is written and it is counted
abbrev pub DoesRow : Limits → State → List Text → State → Option Text → Option Text → Tally → Tally → Type 0
DoesRow limits before fields after old new tally counts =
    (reply : Reply) × IsReplied limits before fields reply after × Appends old new (reply_text reply ++ 10 ∷ []) × (counts ≡ counted tally reply.answer)

-- after some turns of the loop over the records
pub record HasDone {R K : Type 0} (sheet : Sheet) (holds : K → Result Image Table → Type 0) (remaining : R → Option Text) (first now : Reader R) (before after : DeskView K) (old new : Option Text) (tally : Tally) (turns : ℕ) : Type 0 where
  pub records : List (List Text)
  pub replies : List Reply
  pub plain : IsPlain now
  pub width : expected_len now ≡ Some (width_of sheet)
  pub gave : Gave remaining first now records
  pub answered : AreAnswered sheet before.limits (state_of before.image) records replies (state_of after.image) old new
  pub desk : GoesAlong holds before after
  pub counts : tally ≡ tally_of replies
  pub few : answer_count tally ≡ turns
  pub in_turn : length records ≡ turns
