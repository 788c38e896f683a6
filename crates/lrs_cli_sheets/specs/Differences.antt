-- What two inventories differ in, and how the program ends with that.
use Rattle.std.specs.Prelude.{◌≡◌, ◌-◌, ◌⊎◌, ℕ, Option, Some, IfSome, Ok}
use Rattle.std.specs.Io.KnownBytes.{Appends}
use Rattle.lrs_machine.specs.Lines.{Text}
use Rattle.lrs_machine.specs.Sound.{IsSound}
use Rattle.lrs_machine.specs.declared.image.Image.{Image}
use Rattle.lrs_difference.specs.Text.{difference_text}
use Rattle.lrs_sheet.specs.declared.reply.Tally.{Tally}
use Rattle.lrs_sheet_log.specs.Log.{log_text}
use Rattle.lrs_sheet.specs.MadeLogs.{IsMadeBy, IsMadeWith}
use Rattle.lrs_cli_tasks.specs.declared.endings.Ending.{Ending}
use Rattle.lrs_cli_tasks.specs.declared.endings.Ending.TheVariants.{Done, RecordsRefused, Stopped}
use Rattle.lrs_cli_tasks.specs.declared.fault.ProgramFault.{ProgramFault}
use Rattle.lrs_cli_tasks.specs.declared.fault.ProgramFault.TheVariants.{Memory}

-- A difference ends as done, and is written; or there is no memory for it, and nothing is.
abbrev pub EndsDifference : Image → Image → Option Text → Option Text → Ending → Type 0
EndsDifference before after old new Done = Appends old new (difference_text before after)
EndsDifference before after old new (Stopped fault) = (fault ≡ Memory) × (new ≡ old)
EndsDifference before after old new other = ⊥

-- ---- the inventory before an edit

-- the log of the edits before this one
abbrev pub log_before : ℕ → Image → Text
log_before edit i = log_text 1 (Some (edit - 1)) i

-- What the edits from this one on changed: the difference from what those before it made.
abbrev pub EndsSince : ℕ → Image → Option Text → Option Text → Ending → Type 0
EndsSince edit i old new ending =
    ((made : Image) × IsSound made × IsMadeBy (log_before edit i) made × EndsDifference made i old new ending) ⊎ ((ending ≡ Stopped Memory) × (new ≡ old))

-- ---- what a log makes

-- The log of this text, where it is known, was done from the beginning, none of its records was refused, and it made this inventory.
pub record IsMadeByLog (known : Option Text) (made : Image) : Type 0 where
  pub text : Text
  pub is_text : IfSome known (λ t. text ≡ t)
  pub tally : Tally
  pub accepted : tally.refused ≡ 0
  pub is_made : IsMadeWith text (Ok tally) made

-- a log makes no inventory: it is not read or at fault, there is no memory for it, or a record of it is refused
abbrev pub HasNoInventory : Ending → Type 0
HasNoInventory ending = ((fault : ProgramFault) × (ending ≡ Stopped fault)) ⊎ (ending ≡ RecordsRefused)
