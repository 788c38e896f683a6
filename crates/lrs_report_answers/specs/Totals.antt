-- What there is of each class, and totals of a class by the rows of the ledgers.
use Rattle.std.specs.Prelude.{◌≡◌, ℕ, ◌+◌, ◌-◌, Bool, true, false, if◌then◌else◌, List, map, filter, sum_by}
use Rattle.std.specs.Option.{option_map_or}
use Rattle.lrs_measure.specs.Lists.{each_two}
use Rattle.lrs_measure.specs.Texts.{Name, same_name}
use Rattle.lrs_events.specs.declared.part.Part.{Part}
use Rattle.lrs_events.specs.declared.part.Gone.{Gone}
use Rattle.lrs_machine.specs.declared.image.Image.{Image}
use Rattle.lrs_machine.specs.Image.{state_of, reason_of}
use Rattle.lrs_machine.specs.declared.total.Total.{Total}
use Rattle.lrs_machine.specs.Readings.{total_entered, total_gone, total_present}
use Rattle.lrs_machine.specs.Register.{get, entries}
use Rattle.lrs_machine.specs.Sound.{IsSound, asset_before, class_before}
use Rattle.lrs_machine.specs.State.{State, Reason, Retired, Abandoned, same_reason}
use Rattle.lrs_report.specs.ListTotals.{list_totals}

-- what the state has of a class, in side millimetres
abbrev pub total_of_class : State → Name → Total
total_of_class s class = record {
  class = class;
  entered = total_entered class s;
  retired = total_gone Retired class s;
  abandoned = total_gone Abandoned class s;
  present = total_present class s;
}

-- the total of every class, by name
abbrev pub totals_of : State → List Total
totals_of s = map (λ c. total_of_class s c.0) (entries s.classes)

-- the law that they are counted by

-- whether the asset is known, and of the class
abbrev pub is_of_class : State → Name → ℕ → Bool
is_of_class s class asset = option_map_or (λ a. same_name a.class class) (get s.assets asset) false

-- how many side millimetres the rows of a ledger have of assets of the class
abbrev pub ledger_total : Name → State → List Part → ℕ
ledger_total class s parts = sum_by (λ part. if is_of_class s class part.asset then part.to - part.from else 0) parts

-- the rows of what is gone for this reason
abbrev pub parts_gone : Reason → List Gone → List Part
parts_gone why gone = map (λ g. g.part) (filter (λ g. same_reason (reason_of g) why) gone)

-- Totals of a class in the state are those of the rows of the ledgers, and what is present is what was entered and is not gone.
pub record HasTotals (i : Image) (class : Name) : Type 0 where
  pub entered : total_entered class (state_of i) ≡ ledger_total class (state_of i) i.entered
  pub gone : (why : Reason) → total_gone why class (state_of i) ≡ ledger_total class (state_of i) (parts_gone why i.gone)
  pub present : total_present class (state_of i) + total_gone Retired class (state_of i) + total_gone Abandoned class (state_of i) ≡ total_entered class (state_of i)

abbrev pub LedgersTotal : Type 0
LedgersTotal = (i : Image) → IsSound i → (class : Name) → HasTotals i class

-- The lists of an image are in the order in which their totals are counted, and what is counted over them is what its state has.
pub record HasListTotals (i : Image) : Type 0 where
  pub classes_order : each_two class_before i.classes ≡ true
  pub assets_order : each_two asset_before i.assets ≡ true
  pub totals : list_totals i.classes i.assets (map (λ e. e.spans) i.routes) i.entered i.gone ≡ totals_of (state_of i)

abbrev pub ListsTotal : Type 0
ListsTotal = (i : Image) → IsSound i → HasListTotals i
