-- What the program prints for a sheet of questions that is asked of an inventory, and how it ends.
use Rattle.std.specs.Prelude.{◌≡◌, ◌==◌, ◌⊎◌, Option, Result, Ok, Err, if◌then◌else◌}
use Rattle.lrs_machine.specs.Lines.{Text}
use Rattle.lrs_machine.specs.declared.image.Image.{Image}
use Rattle.lrs_sheet_records.specs.declared.fault.SheetFault.{SheetFault}
use Rattle.lrs_sheet_questions.specs.SheetAnswers.{HasAsked}
use Rattle.lrs_sheet_questions.specs.declared.tally.QuestionTally.{QuestionTally}
use Rattle.lrs_cli_tasks.specs.declared.endings.Ending.{Ending}
use Rattle.lrs_cli_tasks.specs.declared.endings.Ending.TheVariants.{Done, RecordsRefused, Stopped}
use Rattle.lrs_cli_tasks.specs.declared.fault.ProgramFault.TheVariants.{Memory, Read}
use Rattle.lrs_cli_tasks.specs.Faults.{fault_of_sheet}

-- done where no question was refused; or some were; or the sheet's fault stops the program
abbrev pub ending_of_questions : Result QuestionTally SheetFault → Ending
ending_of_questions (Ok tally) = if tally.refused == 0 then Done else RecordsRefused
ending_of_questions (Err fault) = Stopped (fault_of_sheet fault)

-- A sheet was asked, the answers were written, and the program ends as it ended.
pub record EndsAsAsked (i : Image) (known : Option Text) (old new : Option Text) (ending : Ending) : Type 0 where
  pub outcome : Result QuestionTally SheetFault
  pub asked : HasAsked i known old new outcome
  pub ends : ending ≡ ending_of_questions outcome

-- How the program ends with a sheet of questions of this text, where it is known: asked, or not opened, when nothing is written.
abbrev pub EndsQuestions : Image → Option Text → Option Text → Option Text → Ending → Type 0
EndsQuestions i known old new ending =
    EndsAsAsked i known old new ending ⊎ ((new ≡ old) × ((ending ≡ Stopped Read) ⊎ (ending ≡ Stopped Memory)))
