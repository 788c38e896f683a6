-- Runs of sheets: what each gives, and what it leaves of the desk and of its keeper.
use Rattle.std.specs.Prelude.{◌≡◌, ℕ, false, List, length, Option, Result, Ok, Err, IfSome}
use Rattle.lrs_machine.specs.Image.{state_of}
use Rattle.lrs_machine.specs.Lines.{Text}
use Rattle.lrs_machine.specs.declared.image.Image.{Image}
use Rattle.lrs_machine.specs.declared.table.Table.{Table}
use Rattle.lrs_machine.specs.declared.stops.fault.Fault.TheVariants as stop
use Rattle.lrs_desk.specs.Desk.{KeepsImage}
use Rattle.lrs_desk.specs.DeskView.{DeskView}
use Rattle.lrs_sheet_records.specs.declared.fault.SheetFault.{SheetFault}
use Rattle.lrs_sheet_records.specs.declared.fault.SheetFault.TheVariants as fault
use Rattle.lrs_sheet_records.specs.declared.sheet.Sheet.{Sheet}
use Rattle.lrs_sheet.specs.declared.reply.Tally.{Tally}
use Rattle.lrs_sheet.specs.declared.resumption.ResumeFault.{ResumeFault}
use Rattle.lrs_sheet.specs.declared.resumption.ResumeFault.TheVariants as resume
use Rattle.lrs_sheet.specs.declared.run.Run.{Run}
use Rattle.lrs_sheet.specs.Repetition.{IsRepeated}
use Rattle.lrs_sheet.specs.Resumption.{BreaksOffResumed, Resumes}
use Rattle.lrs_sheet.specs.Sheets.{BreaksOff, BreaksOffBehind, IsAfterCommands, LeavesDesk, Runs, RunsBehind, StandAtFront, StandsAmid}

-- Each run is told by what may be kept, the bytes that the reader has, if it tells them, the desk before and after, what the writer was given before and after, and how the run ended.
module _ {K : Type 0} (holds : K → Result Image Table → Type 0) where
  -- A whole sheet is run, with so many records together at most.
  pub record IsWholeRun (sheet : Sheet) (together : ℕ) (known : Option Text) (before after : DeskView K) (old new : Option Text) (result : Result Tally SheetFault) : Type 0 where
    -- what is done and written is the reply to the sheet, from the state that the desk's image stands for
    pub runs : IfSome known (λ input. Runs sheet together before.limits input (state_of before.image) (state_of after.image) old new result)
    -- the keeper goes along, unless a commit failed
    pub desk : LeavesDesk holds before after result
    -- after a failed commit the keeper has the state of the records that have lines, or that after all in flight; the image stands for one of these, and where records are done one at a time for the first
    pub broken : result ≡ Err (fault.Desk stop.Keep) → (c : Result Image Table) → holds after.keeper c
        → IfSome known (λ input. BreaksOff sheet together before.limits input (state_of before.image) (state_of after.image) old new c)
    -- where records are done one at a time, the desk is not ahead of the keeper then, so that questions are answered
    pub still : result ≡ Err (fault.Desk stop.Keep) → together ≡ 1 → after.is_ahead ≡ false
    -- whatever bytes the reader gives, commands are done in order
    pub left : IsAfterCommands before.limits (state_of before.image) (state_of after.image)
    -- ... while no commit has failed the keeper has the image that they made, and nothing else
    pub kept : KeepsImage holds after
    -- ... and after a failed commit what it has stands amid them
    pub amid : result ≡ Err (fault.Desk stop.Keep) → (c : Result Image Table) → holds after.keeper c → StandsAmid before.limits (state_of before.image) (state_of after.image) c

  -- A sheet is run behind the records that are passed over: the same of the others.
  pub record IsRunBehind (run : Run) (known : Option Text) (before after : DeskView K) (old new : Option Text) (result : Result Tally SheetFault) : Type 0 where
    pub runs : IfSome known (λ input. (front : List (List Text)) → StandAtFront input front → length front ≡ run.passed
        → RunsBehind front run.sheet run.together before.limits input (state_of before.image) (state_of after.image) old new result)
    pub desk : LeavesDesk holds before after result
    pub broken : result ≡ Err (fault.Desk stop.Keep) → (c : Result Image Table) → holds after.keeper c
        → IfSome known (λ input. (front : List (List Text)) → StandAtFront input front → length front ≡ run.passed
        → BreaksOffBehind front run.sheet run.together before.limits input (state_of before.image) (state_of after.image) old new c)
    pub still : result ≡ Err (fault.Desk stop.Keep) → run.together ≡ 1 → after.is_ahead ≡ false
    pub left : IsAfterCommands before.limits (state_of before.image) (state_of after.image)
    pub kept : KeepsImage holds after
    pub amid : result ≡ Err (fault.Desk stop.Keep) → (c : Result Image Table) → holds after.keeper c → StandsAmid before.limits (state_of before.image) (state_of after.image) c

  -- A sheet is gone on with, whose bytes are these: the same of the records behind those that are decided; or it is not begun.
  pub record IsResumedRun (sheet : Sheet) (together : ℕ) (input : Text) (before after : DeskView K) (old new : Option Text) (result : Result Tally SheetFault) : Type 0 where
    pub runs : Resumes before.must_reopen sheet together before.limits input (state_of before.image) (state_of after.image) old new result
    pub desk : LeavesDesk holds before after result
    pub broken : result ≡ Err (fault.Desk stop.Keep) → (c : Result Image Table) → holds after.keeper c
        → BreaksOffResumed sheet together before.limits input (state_of before.image) (state_of after.image) old new c
    pub still : result ≡ Err (fault.Desk stop.Keep) → together ≡ 1 → after.is_ahead ≡ false
    pub left : IsAfterCommands before.limits (state_of before.image) (state_of after.image)
    pub kept : KeepsImage holds after
    pub amid : result ≡ Err (fault.Desk stop.Keep) → (c : Result Image Table) → holds after.keeper c → StandsAmid before.limits (state_of before.image) (state_of after.image) c

  -- A sheet is gone on with so; or a key stands twice in it, and nothing is done or written.
  abbrev pub IsResumption : Sheet → ℕ → Text → DeskView K → DeskView K → Option Text → Option Text → Result Tally ResumeFault → Type 0
  IsResumption sheet together input before after old new (Ok tally) = IsResumedRun sheet together input before after old new (Ok tally)
  IsResumption sheet together input before after old new (Err (resume.Sheet e)) = IsResumedRun sheet together input before after old new (Err e)
  IsResumption sheet together input before after old new (Err (resume.RepeatedKey twice)) = IsRepeated sheet input twice × (after ≡ before) × (new ≡ old) × KeepsImage holds after
