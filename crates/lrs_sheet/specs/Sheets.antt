-- What a sheet is answered, an edit sheet or a survey: the reply to its bytes, from a state, and each fault where it is due.
use Rattle.std.specs.Prelude.{◌≤◌, ◌≡◌, ◌⊎◌, ℕ, List, [], ◌∷◌, ◌++◌, take, Option, true, length, Result, Ok, Err}
use Rattle.std.specs.List.{AllByRecursion}
use Rattle.std.specs.Io.KnownBytes.{Appends, Keeps}
use Rattle.csv.specs.Reading.{AreRecords, Reached, default_config, strip_bom}
use Rattle.csv.specs.declared.parser.State.{State as Place}
use Rattle.csv.specs.declared.parser.State.TheVariants as st
use Rattle.lrs_machine.specs.Image.{state_of}
use Rattle.lrs_machine.specs.Lines.{Text}
use Rattle.lrs_machine.specs.Machine.{Record, state_after}
use Rattle.lrs_machine.specs.State.{State}
use Rattle.lrs_machine.specs.declared.answer.Limits.{Limits}
use Rattle.lrs_machine.specs.declared.image.Image.{Image}
use Rattle.lrs_machine.specs.declared.table.Table.{Table}
use Rattle.lrs_desk.specs.DeskView.{DeskView}
use Rattle.lrs_image.specs.KeeperCalls.{HasRisen, HoldsOnly}
use Rattle.lrs_machine.specs.declared.stops.fault.Fault.TheVariants as stop
use Rattle.lrs_sheet.specs.declared.reply.Reply.{Reply}
use Rattle.lrs_sheet.specs.declared.reply.Tally.{Tally}
use Rattle.lrs_sheet_records.specs.declared.fault.SheetFault.{SheetFault}
use Rattle.lrs_sheet_records.specs.declared.fault.SheetFault.TheVariants as fault
use Rattle.lrs_sheet_records.specs.declared.sheet.Sheet.{Sheet}
use Rattle.lrs_sheet_records.specs.declared.sheet.Sheet.TheVariants.{Edits}
use Rattle.lrs_sheet_records.specs.Kinds.{IsHeader, width_of}
use Rattle.lrs_sheet_records.specs.Rows.{AreAll, BeginsWith, max_records}
use Rattle.lrs_sheet.specs.Replies.{Replied, lines_of, tally_of}

-- These records stand at the front of the input, under some header; or they are none.
abbrev pub StandAtFront : Text → List (List Text) → Type 0
StandAtFront input records = (records ≡ []) ⊎ ((header : List Text) × BeginsWith input (header ∷ records))

-- each record has as many fields as the header
abbrev pub HaveWidth : Sheet → List (List Text) → Type 0
HaveWidth sheet records = AllByRecursion (λ fields. length fields ≡ width_of sheet) records

-- how many records are done together, of a sheet that is there as a whole
abbrev pub records_together : ℕ
records_together = 1024

-- The records are answered in order, and the lines of their replies are written.
pub record AreAnswered (sheet : Sheet) (limits : Limits) (before : State) (records : List (List Text)) (replies : List Reply) (after : State) (old new : Option Text) : Type 0 where
  pub width : HaveWidth sheet records
  pub replied : Replied sheet limits before records replies after
  pub written : Appends old new (lines_of replies)

-- ---- what a run gives that passes over these first records (none, if the whole sheet is done)

-- The reply to the whole sheet: to an empty one, or to the records under its header.
abbrev pub AnswersAll : List (List Text) → Sheet → Limits → Text → State → State → Option Text → Option Text → Tally → Type 0
AnswersAll passed sheet limits input before after old new tally =
    (AreAll input [] × (after ≡ before) × Keeps old new × (tally ≡ tally_of []))
    ⊎ ((header : List Text) × (records : List (List Text)) × (replies : List Reply) × IsHeader sheet header × AreAll input (header ∷ (passed ++ records))
    × AreAnswered sheet limits before records replies after old new × (tally ≡ tally_of replies) × (length records ≤ max_records))

-- The first record is not the header of the sheet, and nothing is done.
abbrev pub HasBadHeader : Sheet → Text → State → State → Option Text → Option Text → Type 0
HasBadHeader sheet input before after old new =
    (header : List Text) × BeginsWith input (header ∷ []) × (IsHeader sheet header → ⊥) × (after ≡ before) × Keeps old new

-- A record has not as many fields as the header, and those before it are done and answered.
abbrev pub HasBadRecord : List (List Text) → Sheet → Limits → Text → State → State → Option Text → Option Text → Type 0
HasBadRecord passed sheet limits input before after old new =
    (header : List Text) × (records : List (List Text)) × (fields : List Text) × (replies : List Reply) × IsHeader sheet header
    × BeginsWith input (header ∷ ((passed ++ records) ++ fields ∷ [])) × (length fields ≡ width_of sheet → ⊥) × AreAnswered sheet limits before records replies after old new

-- Some records at the front of the sheet are done, and each has its line; nothing else is written.
abbrev pub HasAnsweredSome : List (List Text) → Sheet → Limits → Text → State → State → Option Text → Option Text → Type 0
HasAnsweredSome passed sheet limits input before after old new =
    ((after ≡ before) × Keeps old new)
    ⊎ ((header : List Text) × (records : List (List Text)) × (replies : List Reply) × IsHeader sheet header × BeginsWith input (header ∷ (passed ++ records))
    × AreAnswered sheet limits before records replies after old new)

-- Further records come next, one at least and no more than are done together.
abbrev pub ComeNext : Sheet → ℕ → List (List Text) → Type 0
ComeNext sheet together further = (1 ≤ length further) × (length further ≤ together) × HaveWidth sheet further

-- Some records at the front of the sheet are done, and each has its line; the next ones are not done.
abbrev pub HasStopped : List (List Text) → Sheet → ℕ → Limits → Text → State → State → Option Text → Option Text → Type 0
HasStopped passed sheet together limits input before after old new =
    (header : List Text) × (records : List (List Text)) × (further : List (List Text)) × (replies : List Reply) × IsHeader sheet header
    × BeginsWith input (header ∷ (passed ++ (records ++ further))) × ComeNext sheet together further × AreAnswered sheet limits before records replies after old new

-- Of these records the first are in flight: their commit failed, so that all of them are kept or none. The desk's image stands for the state after them; where there is one, it may stand for the state before it, and does so if records are done one at a time.
pub record RecordsInFlight (sheet : Sheet) (together : ℕ) (limits : Limits) (before : State) (records : List (List Text)) (after : State) : Type 0 where
  pub flying : ℕ
  pub some : 1 ≤ flying
  pub few : flying ≤ length records
  pub replies : List Reply
  pub next : State
  pub replied : Replied sheet limits before (take flying records) replies next
  pub image : ((flying ≡ 1) × (after ≡ before)) ⊎ (after ≡ next)
  pub alone : together ≡ 1 → after ≡ before

-- A commit failed: some records at the front of the sheet are done, and each has its line; of the further ones the first are in flight.
pub record HasFailedToKeep (passed : List (List Text)) (sheet : Sheet) (together : ℕ) (limits : Limits) (input : Text) (before after : State) (old new : Option Text) : Type 0 where
  pub header : List Text
  pub records : List (List Text)
  pub further : List (List Text)
  pub replies : List Reply
  pub settled : State
  pub is_header : IsHeader sheet header
  pub begins : BeginsWith input (header ∷ (passed ++ (records ++ further)))
  pub come_next : ComeNext sheet together further
  pub answered : AreAnswered sheet limits before records replies settled old new
  pub flight : RecordsInFlight sheet together limits settled further after

-- Some records at the front of the sheet are done, one at least; not all of their lines are written whole.
abbrev pub HasDoneUpTo : List (List Text) → Sheet → Limits → Text → State → State → Type 0
HasDoneUpTo passed sheet limits input before after =
    (header : List Text) × (records : List (List Text)) × (further : List (List Text)) × (replies : List Reply) × IsHeader sheet header
    × BeginsWith input (header ∷ (passed ++ (records ++ further))) × (1 ≤ length records) × HaveWidth sheet records × Replied sheet limits before records replies after

-- What a run of a sheet gives behind these first records, which does at most this many together.
abbrev pub RunsBehind : List (List Text) → Sheet → ℕ → Limits → Text → State → State → Option Text → Option Text → Result Tally SheetFault → Type 0
RunsBehind passed sheet together limits input before after old new (Ok tally) = AnswersAll passed sheet limits input before after old new tally
RunsBehind passed sheet together limits input before after old new (Err fault.BadHeader) = HasBadHeader sheet input before after old new
RunsBehind passed sheet together limits input before after old new (Err fault.BadCsv) = HasBadRecord passed sheet limits input before after old new
RunsBehind passed sheet together limits input before after old new (Err fault.Read) = HasAnsweredSome passed sheet limits input before after old new
RunsBehind passed sheet together limits input before after old new (Err fault.Write) = HasDoneUpTo passed sheet limits input before after
RunsBehind passed sheet together limits input before after old new (Err (fault.Desk stop.Memory)) = HasStopped passed sheet together limits input before after old new
RunsBehind passed sheet together limits input before after old new (Err (fault.Desk stop.MustReopen)) = HasStopped passed sheet together limits input before after old new
RunsBehind passed sheet together limits input before after old new (Err (fault.Desk stop.Keep)) = HasFailedToKeep passed sheet together limits input before after old new
RunsBehind passed sheet together limits input before after old new (Err fault.Memory) = HasAnsweredSome passed sheet limits input before after old new

-- What a run of a whole sheet gives.
abbrev pub Runs : Sheet → ℕ → Limits → Text → State → State → Option Text → Option Text → Result Tally SheetFault → Type 0
Runs = RunsBehind []

-- What a run of an edit sheet gives, one record after the other.
abbrev pub RunsEdits : Limits → Text → State → State → Option Text → Option Text → Result Tally SheetFault → Type 0
RunsEdits = Runs Edits 1

-- the desk goes along with its keeper
pub record GoesAlong {K : Type 0} (holds : K → Result Image Table → Type 0) (old new : DeskView K) : Type 0 where
  pub limits : new.limits ≡ old.limits
  pub kept : HoldsOnly (holds old.keeper) old.image → HoldsOnly (holds new.keeper) new.image
  pub reopen : new.must_reopen ≡ old.must_reopen
  pub ahead : new.is_ahead ≡ old.is_ahead
  pub counts : old.failures ≤ new.failures

-- a commit of the desk has failed, which its keeper has counted
pub record MustReopen {K : Type 0} (old new : DeskView K) : Type 0 where
  pub limits : new.limits ≡ old.limits
  pub reopen : new.must_reopen ≡ true
  pub counts : old.failures ≤ new.failures
  pub cause : HasRisen old.failures new.failures

-- What a run leaves of a desk.
abbrev pub LeavesDesk : {X K : Type 0} → (K → Result Image Table → Type 0) → DeskView K → DeskView K → Result X SheetFault → Type 0
LeavesDesk holds old new (Ok x) = GoesAlong holds old new
LeavesDesk holds old new (Err (fault.Desk stop.Keep)) = MustReopen old new
LeavesDesk holds old new (Err (fault.Desk stop.Memory)) = GoesAlong holds old new
LeavesDesk holds old new (Err (fault.Desk stop.MustReopen)) = GoesAlong holds old new × (old.must_reopen ≡ true)
LeavesDesk holds old new (Err fault.BadHeader) = GoesAlong holds old new × (new.image ≡ old.image)
LeavesDesk holds old new (Err fault.BadCsv) = GoesAlong holds old new
LeavesDesk holds old new (Err fault.Read) = GoesAlong holds old new
LeavesDesk holds old new (Err fault.Write) = GoesAlong holds old new
LeavesDesk holds old new (Err fault.Memory) = GoesAlong holds old new

-- Whatever ends a run, the keeper's count of failures is never lowered; where a commit failed it has risen.
pub record CountsFailures {X K : Type 0} (failures : K → ℕ) (old new : DeskView K) (result : Result X SheetFault) : Type 0 where
  pub counts : failures old.keeper ≤ failures new.keeper
  pub cause : result ≡ Err (fault.Desk stop.Keep) → HasRisen (failures old.keeper) (failures new.keeper)

-- what a keeper has stands for the state
abbrev pub StandsFor : Result Image Table → State → Type 0
StandsFor content state = (image : Image) × (content ≡ Ok image) × (state_of image ≡ state)

-- ... for the one state or the other
abbrev pub StandsForEither : Result Image Table → State → State → Type 0
StandsForEither content one other = StandsFor content one ⊎ StandsFor content other

-- Some commands are kept, and others stand behind them in flight: what is found stands for the state before those in flight or for that after them, and so does the image.
pub record StandsAmid (limits : Limits) (before image : State) (content : Result Image Table) : Type 0 where
  pub kept : List Record
  pub flying : List Record
  pub known : (image ≡ state_after limits kept before) ⊎ (image ≡ state_after limits (kept ++ flying) before)
  pub found : StandsForEither content (state_after limits kept before) (state_after limits (kept ++ flying) before)

-- A commit failed: what the keeper has stands for the state of the records that have lines, or for that after all in flight.
abbrev pub BreaksOffBehind : List (List Text) → Sheet → ℕ → Limits → Text → State → State → Option Text → Option Text → Result Image Table → Type 0
BreaksOffBehind passed sheet together limits input before after old new content =
    (failed : HasFailedToKeep passed sheet together limits input before after old new) × StandsForEither content failed.settled failed.flight.next

-- the same of a whole sheet
abbrev pub BreaksOff : Sheet → ℕ → Limits → Text → State → State → Option Text → Option Text → Result Image Table → Type 0
BreaksOff = BreaksOffBehind []

-- the state after some commands, done one after the other
abbrev pub IsAfterCommands : Limits → State → State → Type 0
IsAfterCommands limits before after = (commands : List Record) × (after ≡ state_after limits commands before)
