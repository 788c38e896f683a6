-- What a sheet's run gives, what it leaves of the desk, and how the program ends with it.
use Rattle.std.specs.Prelude.{◌≡◌, ◌==◌, ◌||◌, ◌⊎◌, ◌-◌, ℕ, Bool, true, false, not, List, length, slice_get, Option, Some, Result, Ok, Err, IfErr, IfOk, IfSome, if◌then◌else◌}
use Rattle.std.specs.Option.{option_map_or}
use Rattle.lrs_machine.specs.Image.{state_of}
use Rattle.lrs_machine.specs.Lines.{Text}
use Rattle.lrs_machine.specs.declared.image.Image.{Image}
use Rattle.lrs_machine.specs.declared.table.Table.{Table}
use Rattle.lrs_sheet.specs.DeskView.{DeskView}
use Rattle.lrs_sheet_records.specs.declared.sheet.Sheet.{Sheet}
use Rattle.lrs_sheet_records.specs.declared.fault.SheetFault.{SheetFault}
use Rattle.lrs_sheet.specs.declared.reply.Tally.{Tally}
use Rattle.lrs_sheet.specs.declared.repetition.RepeatedKey.{RepeatedKey as Twice}
use Rattle.lrs_sheet.specs.declared.resumption.Decided.{Decided}
use Rattle.lrs_sheet.specs.declared.run.Run.{Run}
use Rattle.lrs_sheet.specs.Repetition.{HasKeysOnce, IsRepeated}
use Rattle.lrs_sheet.specs.Resumption.{IsDecidedBy, IsSearchFault}
use Rattle.lrs_sheet.specs.Runs.{IsRunBehind}
use Rattle.lrs_sheet.specs.Sheets.{GoesAlong, IsAfterCommands, MustReopen, records_together}
use Rattle.lrs_cli_tasks.specs.declared.endings.Ending.{Ending}
use Rattle.lrs_cli_tasks.specs.declared.endings.Ending.TheVariants.{Done, RecordsRefused, Stopped}
use Rattle.lrs_cli_tasks.specs.declared.fault.ProgramFault.{ProgramFault}
use Rattle.lrs_cli_tasks.specs.declared.fault.ProgramFault.TheVariants.{Memory, Read, RepeatedKey, Write}
use Rattle.lrs_cli_sheets.specs.declared.sheets.Pace.{Pace}
use Rattle.lrs_cli_sheets.specs.declared.sheets.Pace.TheVariants.{LineByLine, AsTheyArrive, InGroups, InPieces}
use Rattle.lrs_cli_sheets.specs.declared.sheets.Way.{Way}
use Rattle.lrs_cli_tasks.specs.Faults.{fault_of_sheet}

-- how many records are done together at a pace
abbrev pub together_at : Pace → ℕ
together_at LineByLine = 1
together_at AsTheyArrive = records_together
together_at InGroups = records_together
together_at InPieces = 1

-- how the records of a sheet are run that is done in this way
abbrev pub run_of : Way → Run
run_of way = record { sheet = way.kind; together = together_at way.pace; passed = way.passed }

-- done where no record was refused; or some were; or the sheet's fault stops the program
abbrev pub ending_of_sheet : Result Tally SheetFault → Ending
ending_of_sheet (Ok tally) = if tally.refused == 0 then Done else RecordsRefused
ending_of_sheet (Err fault) = Stopped (fault_of_sheet fault)

-- LF or CR
abbrev pub ends_line : ℕ → Bool
ends_line byte = (byte == 10) || (byte == 13)

-- the last line of a text has no end: there is a last byte, which is neither
abbrev pub is_cut_off : Text → Bool
is_cut_off text = option_map_or (λ last. not (ends_line last)) (slice_get text (length text - 1)) false

-- A sheet goes on behind this many records: those that are decided, where no two of all have one key.
abbrev pub GoesOnBehind : Sheet → Image → Text → ℕ → Type 0
GoesOnBehind kind image text passed = HasKeysOnce kind text × ((d : Decided) × (front : List (List Text)) × IsDecidedBy kind (state_of image) text d front × (passed ≡ d.records))

-- Why a sheet does not go on: a key stands twice in it; or it is not known behind which record, for a fault of the search.
abbrev pub DoesNotGoOn : Bool → Sheet → Text → ProgramFault → Type 0
DoesNotGoOn must_reopen kind text fault =
    ((twice : Twice) × IsRepeated kind text twice × (fault ≡ RepeatedKey)) ⊎ ((why : SheetFault) × IsSearchFault must_reopen why × (fault ≡ fault_of_sheet why))

-- so the program ends, with a sheet of this text, where it is known
abbrev pub EndsUnresumed : Bool → Sheet → Option Text → Ending → Type 0
EndsUnresumed must_reopen kind known ending = (text : Text) × IfSome known (λ t. text ≡ t) × (fault : ProgramFault) × DoesNotGoOn must_reopen kind text fault × (ending ≡ Stopped fault)

module _ {K : Type 0} (holds : K → Result Image Table → Type 0) where
  -- The desk goes along with its keeper, or a commit of it has failed.
  abbrev pub GoesOnOrBreaks : DeskView K → DeskView K → Type 0
  GoesOnOrBreaks before after = GoesAlong holds before after ⊎ MustReopen before after

  -- A sheet was run so: the reply to its bytes, where they are known, is done and written, but for the records that are passed over.
  abbrev pub HasRun : Way → Option Text → DeskView K → DeskView K → Option Text → Option Text → Result Tally SheetFault → Type 0
  HasRun way = IsRunBehind holds (run_of way)

  -- there is no memory for the replies, and nothing is done; or not all of them are written
  abbrev pub IsUnwritten : DeskView K → DeskView K → ProgramFault → Type 0
  IsUnwritten before after Memory = after ≡ before
  IsUnwritten before after Write = GoesOnOrBreaks before after
  IsUnwritten before after other = ⊥

  -- A sheet was run, its replies went to a writer, and that is given back with how it ended; or it has no replies, or not all.
  pub record WritesReplies {W : Type 0} (contents : W → Option Text) (way : Way) (known : Option Text) (before after : DeskView K) (to : W) (result : Result (W × Result Tally SheetFault) ProgramFault) : Type 0 where
    pub ran : IfOk result (λ done. HasRun way known before after (contents to) (contents done.0) done.1)
    pub unwritten : IfErr result (IsUnwritten before after)
    pub left : IsAfterCommands before.limits (state_of before.image) (state_of after.image)

  -- A sheet was run, its replies were written, and the program ends as it ended.
  pub record EndsAsRun (way : Way) (known : Option Text) (before after : DeskView K) (old new : Option Text) (ending : Ending) : Type 0 where
    pub outcome : Result Tally SheetFault
    pub ran : HasRun way known before after old new outcome
    pub ends : ending ≡ ending_of_sheet outcome

  -- the sheet is not opened: nothing is done, and nothing is written
  abbrev pub IsUnopened : DeskView K → DeskView K → Option Text → Option Text → Ending → Type 0
  IsUnopened before after old new ending = (after ≡ before) × (new ≡ old) × ((ending ≡ Stopped Read) ⊎ (ending ≡ Stopped Memory))

  -- the sheet does not go on: nothing is done, and nothing is written
  abbrev pub IsUnresumed : Sheet → Option Text → DeskView K → DeskView K → Option Text → Option Text → Ending → Type 0
  IsUnresumed kind known before after old new ending = (after ≡ before) × (new ≡ old) × EndsUnresumed before.must_reopen kind known ending

  -- The sheet was run behind the records that are decided: those of its text.
  pub record EndsResumed (kind : Sheet) (known : Option Text) (before after : DeskView K) (old new : Option Text) (ending : Ending) : Type 0 where
    pub text : Text
    pub is_text : IfSome known (λ t. text ≡ t)
    pub passed : ℕ
    pub goes_on : GoesOnBehind kind before.image text passed
    pub pace : Pace
    pub ran : EndsAsRun (record { kind = kind; pace = pace; passed = passed }) (Some text) before after old new ending

  -- How the program ends with a sheet of this text, where it is known: done as a whole, or gone on with.
  abbrev pub EndsSheet : Sheet → Bool → Option Text → DeskView K → DeskView K → Option Text → Option Text → Ending → Type 0
  EndsSheet kind false known before after old new ending =
      ((pace : Pace) × EndsAsRun (record { kind = kind; pace = pace; passed = 0 }) known before after old new ending) ⊎ IsUnopened before after old new ending
  EndsSheet kind true known before after old new ending =
      EndsResumed kind known before after old new ending ⊎ (IsUnresumed kind known before after old new ending ⊎ IsUnopened before after old new ending)
