-- What is written of a sheet that is tidied, and how the program ends with it.
use Rattle.std.specs.Prelude.{◌≡◌, ◌⊎◌, IfSome, Option}
use Rattle.std.specs.Io.KnownBytes.{Appends}
use Rattle.lrs_machine.specs.Lines.{Text}
use Rattle.lrs_sheet_records.specs.declared.sheet.Sheet.{Sheet}
use Rattle.lrs_sheet_advice.specs.TidySheets.{IsTidied, IsUntidy}
use Rattle.lrs_cli_tasks.specs.declared.endings.Ending.{Ending}
use Rattle.lrs_cli_tasks.specs.declared.endings.Ending.TheVariants.{Done, RecordsRefused, Stopped}
use Rattle.lrs_cli_tasks.specs.declared.fault.ProgramFault.TheVariants.{Memory, Read}

-- A text was tidied, that of the file where it is known, and what it became was written.
pub record HasTidied (kind : Sheet) (known : Option Text) (old new : Option Text) : Type 0 where
  pub text : Text
  pub is_text : IfSome known (λ t. text ≡ t)
  pub tidied : Text
  pub is_tidied : IsTidied kind text tidied
  pub written : Appends old new tidied

-- A text is no tidy sheet, and was not made one: nothing is written.
pub record HasNotTidied (kind : Sheet) (known : Option Text) (old new : Option Text) : Type 0 where
  pub text : Text
  pub is_text : IfSome known (λ t. text ≡ t)
  pub untidy : IsUntidy kind text
  pub unwritten : new ≡ old

-- How the program ends with a file of this text, where it is known: as done, and the tidied sheet is written; or as with records that are refused, or stopped, and nothing is.
abbrev pub EndsTidy : Sheet → Option Text → Option Text → Option Text → Ending → Type 0
EndsTidy kind known old new Done = HasTidied kind known old new
EndsTidy kind known old new RecordsRefused = HasNotTidied kind known old new
EndsTidy kind known old new (Stopped fault) = (new ≡ old) × ((fault ≡ Memory) ⊎ (fault ≡ Read))
EndsTidy kind known old new other = ⊥
