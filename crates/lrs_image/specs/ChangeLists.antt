-- Several changes, one after the other, that are kept together.
use Rattle.std.specs.Prelude.{◌≡◌, ◌⊎◌, ℕ, ◌+◌, ◌≤◌, List, [], ◌∷◌, Result, Ok, Err, IfOk, OnOk, ⊤, true}
use Rattle.lrs_machine.specs.declared.image.Image.{Image}
use Rattle.lrs_machine.specs.declared.table.Table.{Table}
use Rattle.lrs_image.specs.declared.change.Change.{Change}
use Rattle.lrs_image.specs.declared.holder.Holder.{Ghosts as Holder}
use Rattle.lrs_image.specs.declared.keeper.CommitFault.{CommitFault}
use Rattle.lrs_image.specs.declared.keeper.CommitFault.TheVariants as commit
use Rattle.lrs_image.specs.Change.{apply, CanMake, rows_of}
use Rattle.lrs_image.specs.KeeperCalls.{HasRisen, HoldsOnly, HoldsSound, HoldsOldOrNew}

-- the image after all of them
abbrev pub apply_all : List Change → Image → Image
apply_all [] i = i
apply_all (c ∷ cs) i = apply_all cs (apply c i)

-- Each can be made of what those before it made.
abbrev pub CanMakeAll : List Change → Image → Type 0
CanMakeAll [] i = ⊤
CanMakeAll (c ∷ cs) i = CanMake c i × CanMakeAll cs (apply c i)

-- how many rows they list
abbrev pub rows_in : List Change → ℕ
rows_in [] = 0
rows_in (c ∷ cs) = rows_of c.difference + rows_in cs

-- what the changes make of an image that could be found before them
abbrev pub IsChangedBy : (Result Image Table → Type 0) → List Change → Result Image Table → Type 0
IsChangedBy before changes c = (image : Image) × before (Ok image) × (c ≡ Ok (apply_all changes image))

-- They can be made of each image that may be found.
abbrev pub CanKeep : (Result Image Table → Type 0) → List Change → Type 0
CanKeep may changes = (c : Result Image Table) → may c → IfOk c (CanMakeAll changes)

-- A commit keeps all of these changes; or none, where memory runs out; or all or none, where the device fails. What may be found is sound, and the device is reached but for a failure of it.
pub record Keeps {K X : Type 0} (h : Holder K) (changes : List Change) (old new : K) (result : Result X CommitFault) : Type 0 where
  pub ok : OnOk result ((c : Result Image Table) → h.may_hold new c → IsChangedBy (h.may_hold old) changes c)
  pub memory : result ≡ Err commit.Memory → (c : Result Image Table) → h.may_hold new c → h.may_hold old c
  pub store : result ≡ Err commit.Store → (c : Result Image Table) → h.may_hold new c → h.may_hold old c ⊎ IsChangedBy (h.may_hold old) changes c
  pub counts : h.failures old ≤ h.failures new
  pub found : HoldsSound (h.may_hold new)
  pub loaded : h.is_loaded new ≡ true
  pub reached : (result ≡ Err commit.Store → ⊥) → h.is_clean new → h.is_open new

-- One change of the image that alone could be found is kept; or not, where memory runs out; or either, where the device fails, which is then counted. The two faults are named by those who tell of them.
pub record KeepsOne {K X F : Type 0} (h : Holder K) (memory store : F) (change : Change) (image : Image) (old new : K) (result : Result X F) : Type 0 where
  pub ok : OnOk result (HoldsOnly (h.may_hold new) (apply change image))
  pub none : result ≡ Err memory → (c : Result Image Table) → h.may_hold new c → h.may_hold old c
  pub either : result ≡ Err store → HoldsOldOrNew change (h.may_hold new) image
  pub cause : result ≡ Err store → HasRisen (h.failures old) (h.failures new)
  pub counts : h.failures old ≤ h.failures new
  pub loaded : h.is_loaded new ≡ true
  pub reached : (result ≡ Err store → ⊥) → h.is_clean new → h.is_open new
