-- Going on with a sheet whose replies were lost: behind the last of its records that is an edit of the state, where no two have one key.
use Rattle.std.specs.Prelude.{◌≡◌, ◌+◌, ◌⊎◌, ⊤, ℕ, IsTrue, Bool, true, List, [], ◌∷◌, ◌++◌, length, Option, Some, None, Result, Ok, Err}
use Rattle.std.specs.List.{AllByRecursion}
use Rattle.std.specs.Io.KnownBytes.{Keeps}
use Rattle.csv.specs.Reading.{expected_len}
use Rattle.csv.specs.declared.reader.Reader.{Reader}
use Rattle.lrs_machine.specs.Lines.{Text}
use Rattle.lrs_machine.specs.State.{State}
use Rattle.lrs_machine.specs.declared.answer.Limits.{Limits}
use Rattle.lrs_machine.specs.declared.command.Command.{Command}
use Rattle.lrs_machine.specs.declared.image.Image.{Image}
use Rattle.lrs_machine.specs.declared.table.Table.{Table}
use Rattle.lrs_machine.specs.Stop.KnownEdits.{is_edit}
use Rattle.lrs_machine.specs.declared.stops.fault.Fault.TheVariants as stop
use Rattle.lrs_sheet_records.specs.declared.sheet.Sheet.{Sheet}
use Rattle.lrs_sheet_records.specs.Kinds.{IsHeader, edit_record, width_of}
use Rattle.lrs_sheet_records.specs.Records.{SaysCommand}
use Rattle.lrs_sheet_records.specs.declared.fault.SheetFault.{SheetFault}
use Rattle.lrs_sheet_records.specs.declared.fault.SheetFault.TheVariants as fault
use Rattle.lrs_sheet.specs.declared.reply.Tally.{Tally}
use Rattle.lrs_sheet.specs.declared.resumption.Decided.{Decided}
use Rattle.lrs_sheet_records.specs.Rows.{EndsAfter, Gave, IsPlain, NextDiffers}
use Rattle.lrs_sheet_records.specs.Rows.{BeginsWith}
use Rattle.lrs_sheet.specs.Repetition.{HasKeysOnce}
use Rattle.lrs_sheet.specs.Sheets.{BreaksOffBehind, HaveWidth, RunsBehind, StandAtFront}

-- The record says a command that is an edit of the state, under this key.
abbrev pub IsEdit : Sheet → State → Text → List Text → Type 0
IsEdit sheet s key fields = (command : Command) × SaysCommand (edit_record sheet fields) key command × IsTrue (is_edit s (record { key = key; command = command }))

-- It says none, or one that is no edit.
abbrev pub IsNoEdit : Sheet → State → List Text → Type 0
IsNoEdit sheet s fields = (key : Text) → IsEdit sheet s key fields → ⊥

-- There are no records; or the last of them is an edit, under this key.
abbrev pub EndInEdit : Sheet → State → List (List Text) → Option Text → Type 0
EndInEdit sheet s records None = records ≡ []
EndInEdit sheet s records (Some key) = (front : List (List Text)) × (last : List Text) × (records ≡ front ++ last ∷ []) × IsEdit sheet s key last

-- Of a sheet these first records are decided by the state: up to the last one that is an edit of it.
pub record IsDecidedBy (sheet : Sheet) (s : State) (input : Text) (d : Decided) (records : List (List Text)) : Type 0 where
  pub number : d.records ≡ length records
  pub at_front : StandAtFront input records
  pub wide : HaveWidth sheet records
  pub last : EndInEdit sheet s records d.key
  -- whatever the sheet goes on with, none of it is an edit
  pub others : (header : List Text) (others : List (List Text)) → IsHeader sheet header → BeginsWith input (header ∷ (records ++ others)) → HaveWidth sheet others → AllByRecursion (IsNoEdit sheet s) others

-- why a search ends early: for the reader, for memory, or since a commit of the desk has failed
abbrev pub IsSearchFault : Bool → SheetFault → Type 0
IsSearchFault must_reopen fault.Read = ⊤
IsSearchFault must_reopen fault.Memory = ⊤
IsSearchFault must_reopen (fault.Desk stop.Memory) = ⊤
IsSearchFault must_reopen (fault.Desk stop.MustReopen) = must_reopen ≡ true
IsSearchFault must_reopen (fault.Desk stop.Keep) = ⊥
IsSearchFault must_reopen fault.Write = ⊥
IsSearchFault must_reopen fault.BadHeader = ⊥
IsSearchFault must_reopen fault.BadCsv = ⊥

-- nothing is done, for a fault of the search
abbrev pub IsNotBegun : Bool → State → State → Option Text → Option Text → Result Tally SheetFault → Type 0
IsNotBegun must_reopen before after old new (Ok tally) = ⊥
IsNotBegun must_reopen before after old new (Err e) = IsSearchFault must_reopen e × (after ≡ before) × Keeps old new

-- What resuming a sheet gives: no two of its records have one key, and it is run behind those that are decided; or it is not begun.
abbrev pub Resumes : Bool → Sheet → ℕ → Limits → Text → State → State → Option Text → Option Text → Result Tally SheetFault → Type 0
Resumes must_reopen sheet together limits input before after old new result =
    IsNotBegun must_reopen before after old new result
    ⊎ (HasKeysOnce sheet input × (d : Decided) × (records : List (List Text)) × IsDecidedBy sheet before input d records × RunsBehind records sheet together limits input before after old new result)

-- A commit failed behind them.
abbrev pub BreaksOffResumed : Sheet → ℕ → Limits → Text → State → State → Option Text → Option Text → Result Image Table → Type 0
BreaksOffResumed sheet together limits input before after old new content =
    (d : Decided) × (records : List (List Text)) × IsDecidedBy sheet before input d records × BreaksOffBehind records sheet together limits input before after old new content

-- ---- the search

-- what is decided once one more record was looked at behind some: up to that one, where it is an edit under a key
abbrev pub decided_next : Decided → ℕ → Option Text → Decided
decided_next before turn None = before
decided_next before turn (Some key) = record { records = turn + 1; key = Some key }

-- after some turns: of the records that were given the first are decided, and none of the others is an edit
pub record HasSearched {R : Type 0} (sheet : Sheet) (remaining : R → Option Text) (first now : Reader R) (s : State) (d : Decided) (turns : ℕ) : Type 0 where
  pub decided : List (List Text)
  pub others : List (List Text)
  pub plain : IsPlain now
  pub width : expected_len now ≡ Some (width_of sheet)
  pub gave : Gave remaining first now (decided ++ others)
  pub number : d.records ≡ length decided
  pub last : EndInEdit sheet s decided d.key
  pub wide : HaveWidth sheet (decided ++ others)
  pub none : AllByRecursion (IsNoEdit sheet s) others
  pub in_turn : length decided + length others ≡ turns

-- so the records are given to their end, or to one that has another length
abbrev pub HasFound : {R : Type 0} → Sheet → (R → Option Text) → Reader R → State → Decided → Type 0
HasFound {R} sheet remaining first s d =
    (last : Reader R) × (turns : ℕ) × HasSearched sheet remaining first last s d turns × (EndsAfter remaining last [] ⊎ NextDiffers remaining last [] (width_of sheet))
