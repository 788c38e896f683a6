-- What a sheet is answered that is tried at a copy of an inventory, and how the program ends with it.
use Rattle.std.specs.Prelude.{◌≡◌, ◌⊎◌, ℕ, Bool, true, false, codes, bytes_eq, IfSome, Option, Some, Result, Ok, Err}
use Rattle.std.specs.Io.KnownBytes.{Appends}
use Rattle.std.specs.List.{before_first}
use Rattle.lrs_machine.specs.Image.{state_of}
use Rattle.lrs_machine.specs.Lines.{Text}
use Rattle.lrs_machine.specs.Sound.{IsSound}
use Rattle.lrs_machine.specs.State.{State}
use Rattle.lrs_machine.specs.declared.image.Image.{Image}
use Rattle.lrs_machine.specs.declared.table.Table.{Table}
use Rattle.lrs_sheet.specs.DeskView.{DeskView}
use Rattle.lrs_sheet_records.specs.declared.sheet.Sheet.{Sheet}
pub use Rattle.lrs_sheet.specs.Sheets.{IsAfterCommands}
use Rattle.lrs_difference.specs.Text.{difference_text}
pub use Rattle.lrs_sheet.specs.Trials.{IsFull, IsTried}
use Rattle.lrs_sheet_records.specs.declared.fault.SheetFault.{SheetFault}
use Rattle.lrs_sheet.specs.declared.reply.Tally.{Tally}
use Rattle.lrs_cli_tasks.specs.declared.endings.Ending.{Ending}
use Rattle.lrs_cli_tasks.specs.declared.endings.Ending.TheVariants.{NotConfirmed, Stopped}
use Rattle.lrs_cli_tasks.specs.declared.fault.ProgramFault.TheVariants.{CutOff, Memory, Read}
use Rattle.lrs_cli_sheets.specs.declared.sheets.Pace.{Pace}
use Rattle.lrs_cli_sheets.specs.declared.sheets.Way.{Way}
use Rattle.lrs_cli_sheets.specs.Sheets.{EndsAsRun, EndsSheet, EndsUnresumed, GoesOnBehind, IsUnopened, ending_of_sheet, ends_line, is_cut_off}

-- the sheet was tried, and these are the lines of its replies
abbrev pub HasTried : Sheet → ℕ → Text → Image → Text → Result Tally SheetFault → Type 0
HasTried kind passed text image replies outcome = (after : State) × IsTried kind passed text (state_of image) after replies outcome

-- A sheet of this text, where it is known, was tried, and the program writes its replies and ends as it ended.
pub record EndsAsTried (kind : Sheet) (known : Option Text) (image : Image) (old new : Option Text) (ending : Ending) : Type 0 where
  pub text : Text
  pub is_text : IfSome known (λ t. text ≡ t)
  pub replies : Text
  pub outcome : Result Tally SheetFault
  pub tried : HasTried kind 0 text image replies outcome
  pub written : Appends old new replies
  pub ends : ending ≡ ending_of_sheet outcome

-- A sheet of this text, where it is known, was tried, and the program writes what it would change, and ends as it ended.
pub record EndsDiffered (kind : Sheet) (known : Option Text) (image : Image) (old new : Option Text) (ending : Ending) : Type 0 where
  pub text : Text
  pub is_text : IfSome known (λ t. text ≡ t)
  pub made : Image
  pub sound : IsSound made
  pub replies : Text
  pub outcome : Result Tally SheetFault
  pub tried : IsTried kind 0 text (state_of image) (state_of made) replies outcome
  pub written : Appends old new (difference_text image made)
  pub ends : ending ≡ ending_of_sheet outcome

-- the replies are told, or the difference
abbrev pub EndsTold : Bool → Sheet → Option Text → Image → Option Text → Option Text → Ending → Type 0
EndsTold false kind known image old new ending = EndsAsTried kind known image old new ending
EndsTold true kind known image old new ending = EndsDiffered kind known image old new ending

-- a check ends before there are replies, and nothing is written
abbrev pub IsUnchecked : Option Text → Option Text → Ending → Type 0
IsUnchecked old new ending = (new ≡ old) × ((ending ≡ Stopped Memory) ⊎ (ending ≡ Stopped Read))

-- a check ends as the sheet that was tried, or before
abbrev pub EndsCheck : Sheet → Bool → Option Text → Image → Option Text → Option Text → Ending → Type 0
EndsCheck kind differs known image old new ending = EndsTold differs kind known image old new ending ⊎ IsUnchecked old new ending

-- how many records are passed over: none, or those that are decided where the sheet goes on
abbrev pub ArePassed : Sheet → Bool → Image → Text → ℕ → Type 0
ArePassed kind false image text passed = passed ≡ 0
ArePassed kind true image text passed = GoesOnBehind kind image text passed

-- no record of the sheet was refused, and it ran to its end
abbrev pub IsAccepted : Result Tally SheetFault → Type 0
IsAccepted (Ok tally) = tally.refused ≡ 0
IsAccepted (Err fault) = ⊥

-- the first line is `yes`
abbrev pub says_yes : Text → Bool
says_yes text = bytes_eq (before_first ends_line text) (codes "yes")

module _ {K : Type 0} (holds : K → Result Image Table → Type 0) where
  -- The sheet was tried, no record of it was refused, and then it was run.
  pub record IsDoneAll (kind : Sheet) (resumes : Bool) (known : Option Text) (before after : DeskView K) (old new : Option Text) (ending : Ending) : Type 0 where
    pub text : Text
    pub is_text : IfSome known (λ t. text ≡ t)
    pub passed : ℕ
    pub are_passed : ArePassed kind resumes before.image text passed
    pub replies : Text
    pub outcome : Result Tally SheetFault
    pub tried : HasTried kind passed text before.image replies outcome
    pub accepted : IsAccepted outcome
    pub pace : Pace
    pub ran : EndsAsRun holds (record { kind = kind; pace = pace; passed = passed }) (Some text) before after old new ending

  -- The sheet was tried, something of it was refused, and nothing is done or written.
  pub record IsRefusedAll (kind : Sheet) (resumes : Bool) (known : Option Text) (before after : DeskView K) (old new : Option Text) (ending : Ending) : Type 0 where
    pub text : Text
    pub is_text : IfSome known (λ t. text ≡ t)
    pub passed : ℕ
    pub are_passed : ArePassed kind resumes before.image text passed
    pub replies : Text
    pub outcome : Result Tally SheetFault
    pub tried : HasTried kind passed text before.image replies outcome
    pub refused : IsAccepted outcome → ⊥
    pub same : after ≡ before
    pub unwritten : new ≡ old
    pub ends : ending ≡ ending_of_sheet outcome

  -- a sheet that was tried so is run, if no record of it was refused, and else nothing is done or written
  abbrev pub EndsTried : Way → Text → Result Tally SheetFault → DeskView K → DeskView K → Option Text → Option Text → Ending → Type 0
  EndsTried way text outcome before after old new ending =
      (IsAccepted outcome × EndsAsRun holds way (Some text) before after old new ending)
      ⊎ ((IsAccepted outcome → ⊥) × (after ≡ before) × (new ≡ old) × (ending ≡ ending_of_sheet outcome))

  -- a sheet was not tried: there was no memory, or it was not read; or it was to go on, and does not
  abbrev pub IsUntried : Bool → Sheet → Bool → Option Text → Ending → Type 0
  IsUntried must_reopen kind resumes known ending = ((ending ≡ Stopped Memory) ⊎ (ending ≡ Stopped Read)) ⊎ ((resumes ≡ true) × EndsUnresumed must_reopen kind known ending)

  -- A sheet is done as a whole or not at all; or it was not tried, and nothing is done or written.
  abbrev pub EndsAll : Sheet → Bool → Option Text → DeskView K → DeskView K → Option Text → Option Text → Ending → Type 0
  EndsAll kind resumes known before after old new ending =
      IsDoneAll kind resumes known before after old new ending ⊎ IsRefusedAll kind resumes known before after old new ending
      ⊎ ((after ≡ before) × (new ≡ old) × IsUntried before.must_reopen kind resumes known ending)

  -- How the program ends with a sheet: done as it comes, or as a whole or not at all.
  abbrev pub EndsGiven : Sheet → Bool → Bool → Option Text → DeskView K → DeskView K → Option Text → Option Text → Ending → Type 0
  EndsGiven kind resumes false known before after old new ending = EndsSheet holds kind resumes known before after old new ending
  EndsGiven kind resumes true known before after old new ending = EndsAll kind resumes known before after old new ending

  -- The same; and where the sheet has to be whole, it is not opened; or its last line has no end, and nothing is done or written; or it has one, and the same.
  abbrev pub EndsRecords : Sheet → Bool → Bool → Bool → Option Text → DeskView K → DeskView K → Option Text → Option Text → Ending → Type 0
  EndsRecords kind resumes all false known before after old new ending = EndsGiven kind resumes all known before after old new ending
  EndsRecords kind resumes all true known before after old new ending =
      IsUnopened holds before after old new ending
      ⊎ (IfSome known (λ text. is_cut_off text ≡ true) × (after ≡ before) × (new ≡ old) × (ending ≡ Stopped CutOff))
      ⊎ (IfSome known (λ text. is_cut_off text ≡ false) × EndsGiven kind resumes all known before after old new ending)

  -- nothing was done or written: it was not confirmed
  abbrev pub IsUnconfirmed : Option Text → DeskView K → DeskView K → Option Text → Option Text → Ending → Type 0
  IsUnconfirmed answer before after old new ending = IfSome answer (λ t. says_yes t ≡ false) × (after ≡ before) × (new ≡ old) × (ending ≡ NotConfirmed)

  -- How the program ends with a sheet that is done at once, or only where the answer to that is `yes`; or the sheet or the answer is not read, and nothing is done or written.
  abbrev pub EndsConfirmed : Option Text → Bool → Sheet → Bool → Bool → Bool → Option Text → DeskView K → DeskView K → Option Text → Option Text → Ending → Type 0
  EndsConfirmed answer false kind resumes all whole known before after old new ending = EndsRecords kind resumes all whole known before after old new ending
  EndsConfirmed answer true kind resumes all whole known before after old new ending =
      (IfSome answer (λ t. says_yes t ≡ true) × EndsRecords kind resumes all whole known before after old new ending)
      ⊎ (IsUnconfirmed answer before after old new ending ⊎ IsUnopened holds before after old new ending)
