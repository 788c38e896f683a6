-- Whether an inventory is what its log makes, and how the program ends with that.
use Rattle.std.specs.Prelude.{◌≡◌, ◌++◌, ◌∷◌, [], codes, Option, Some, None}
use Rattle.std.specs.Io.KnownBytes.{Appends}
use Rattle.lrs_machine.specs.Lines.{Text}
use Rattle.lrs_machine.specs.declared.image.Image.{Image}
use Rattle.lrs_machine.specs.declared.table.Table.{Table}
use Rattle.lrs_sheet_log.specs.Differences.{IsFirstDifference}
use Rattle.lrs_sheet_log.specs.Log.{log_text}
pub use Rattle.lrs_sheet.specs.MadeLogs.{IsMadeBy}
use Rattle.lrs_cli_tasks.specs.declared.endings.Ending.{Ending}
use Rattle.lrs_cli_tasks.specs.declared.endings.Ending.TheVariants.{Differs, Done, Stopped}
use Rattle.lrs_cli_tasks.specs.declared.fault.ProgramFault.TheVariants.{Memory}

-- the whole log of an inventory
abbrev pub log_of : Image → Text
log_of i = log_text 1 None i

-- The first table in which an inventory is not what its log makes; none where it is.
pub record IsAudited (i : Image) (differs : Option Table) : Type 0 where
  pub made : Image
  pub is_made : IsMadeBy (log_of i) made
  pub compared : IsFirstDifference i made differs

-- what an audit says where nothing differs
abbrev pub sound_line : Text
sound_line = codes "sound, and as its log says" ++ 10 ∷ []

-- An audit ends as done, and says so, where the log of the inventory makes the inventory, and else names the first table that differs.
abbrev pub EndsAudit : Image → Option Text → Option Text → Ending → Type 0
EndsAudit i old new Done = IsAudited i None × Appends old new sound_line
EndsAudit i old new (Differs table) = IsAudited i (Some table) × (new ≡ old)
EndsAudit i old new (Stopped fault) = (fault ≡ Memory) × (new ≡ old)
EndsAudit i old new other = ⊥
