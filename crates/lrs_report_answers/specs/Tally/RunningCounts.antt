-- Counts of each class that are kept beside an inventory.
use Rattle.std.specs.Prelude.{◌≡◌, ◌<◌, length, List, map, Option, vec_len, vec_capacity}
use Rattle.lrs_measure.specs.Texts.{Name}
use Rattle.lrs_events.specs.declared.class.Class.{Class}
use Rattle.lrs_machine.specs.declared.image.Image.{Image}
use Rattle.lrs_machine.specs.Image.{state_of}
use Rattle.lrs_machine.specs.Readings.{total_entered, total_gone}
use Rattle.lrs_machine.specs.Register.{entries}
use Rattle.lrs_machine.specs.Sound.{IsSound}
use Rattle.lrs_machine.specs.State.{State, Retired, Abandoned}
use Rattle.lrs_image.specs.declared.change.Change.{Change}
use Rattle.lrs_image.specs.Change.{apply}
use Rattle.lrs_report_answers.specs.declared.tallies.tally.Count.{Count}
use Rattle.lrs_report_answers.specs.declared.tallies.counts.Counts.{Counts}

-- what has been entered, retired and abandoned of a class in the state
abbrev pub count_in : State → Name → Count
count_in s class = record { class = class; entered = total_entered class s; retired = total_gone Retired class s; abandoned = total_gone Abandoned class s }

-- ... of every class, by name
abbrev pub counts_in : State → List Count
counts_in s = map (λ c. count_in s c.0) (entries s.classes)

-- The counts are those of the image, and all rows of its ledgers are counted.
pub record IsCounted (i : Image) (counts : Counts) : Type 0 where
  pub classes : counts.classes.items ≡ counts_in (state_of i)
  pub entered : counts.entered ≡ length i.entered
  pub gone : counts.gone ≡ length i.gone

-- The counts are those of the image as it was before its last change, by which this class came.
pub record IsBehind (i : Image) (class : Option Class) (counts : Counts) : Type 0 where
  pub before : Image
  pub change : Change
  pub made : i ≡ apply change before
  pub class_is : class ≡ change.difference.class
  pub counted : IsCounted before counts
  pub was_sound : IsSound before
  pub sound : IsSound i

-- there is room for the count of one more class
abbrev pub HasRoom : Counts → Type 0
HasRoom counts = vec_len counts.classes < vec_capacity counts.classes
