-- What a keeper's calls leave.
use Rattle.std.specs.Prelude.{◌≡◌, ◌↔◌, ◌⊎◌, ℕ, ◌<◌, ◌≤◌, ◌-◌, ◌^◌, Result, Ok, Err, Option, Some, None, IfOk, OnOk, Bool, true, false}
use Rattle.lrs_machine.specs.declared.image.Image.{Image}
use Rattle.lrs_machine.specs.declared.table.Table.{Table}
use Rattle.lrs_machine.specs.Sound.{first_unsound, IsSound}
use Rattle.lrs_image.specs.declared.change.Change.{Change}
use Rattle.lrs_image.specs.declared.holder.Holder.{Ghosts as Holder}
use Rattle.lrs_image.specs.declared.keeper.LoadFault.{LoadFault}
use Rattle.lrs_image.specs.declared.keeper.LoadFault.TheVariants as load
use Rattle.lrs_image.specs.Change.{apply}

-- what is found where this image is kept: the image, or its first unsound table
abbrev pub content_by : Image → Option Table → Result Image Table
content_by image None = Ok image
content_by image (Some table) = Err table

abbrev pub content_of : Image → Result Image Table
content_of image = content_by image (first_unsound image)

-- a count of failures has risen; one at its greatest number stays, and is taken as risen
abbrev pub HasRisen : ℕ → ℕ → Type 0
HasRisen old new = (old < new) ⊎ (new ≡ 2 ^ 64 - 1)

-- what may be found: nothing but the image
abbrev pub HoldsOnly : (Result Image Table → Type 0) → Image → Type 0
HoldsOnly may image = (c : Result Image Table) → may c → c ≡ Ok image

-- what may be found, where it is an image, is sound
abbrev pub HoldsSound : (Result Image Table → Type 0) → Type 0
HoldsSound may = (c : Result Image Table) → may c → IfOk c (λ image. IsSound image)

-- whether an opening finds an image
abbrev pub is_image : Result Image Table → Bool
is_image (Ok image) = true
is_image (Err table) = false

-- the same may be found, and nothing else
abbrev pub HoldsSame : (Result Image Table → Type 0) → (Result Image Table → Type 0) → Type 0
HoldsSame old new = (c : Result Image Table) → new c ↔ old c

-- what may be found: the image from before a change, or the one after it, and nothing else
abbrev pub HoldsOldOrNew : Change → (Result Image Table → Type 0) → Image → Type 0
HoldsOldOrNew change may image = (c : Result Image Table) → may c → (c ≡ Ok image) ⊎ (c ≡ Ok (apply change image))

-- Loading answers the image that alone may be found, and it is sound; or the first unsound table of all that may be found, and that is found where the device is clean; or the device has failed. What may be found stays in any case.
pub record Loads {K : Type 0} (h : Holder K) (old new : K) (result : Result Image LoadFault) : Type 0 where
  pub image : IfOk result (λ image. HoldsOnly (h.may_hold new) image)
  pub sound : IfOk result (λ image. IsSound image)
  pub loaded : OnOk result (h.is_loaded new ≡ true)
  pub unsound : (t : Table) → result ≡ Err (load.Unsound t) → (c : Result Image Table) → h.may_hold new c → c ≡ Err t
  pub named : (t : Table) → result ≡ Err (load.Unsound t) → h.is_clean new → h.may_hold new (Err t)
  pub store : result ≡ Err load.Store → HasRisen (h.failures old) (h.failures new)
  pub quiet : (result ≡ Err load.Store → ⊥) → h.failures new ≡ h.failures old
  pub counts : h.failures old ≤ h.failures new
  pub found : HoldsSound (h.may_hold new)
  pub content : (c : Result Image Table) → h.may_hold new c → h.may_hold old c
  pub reached : OnOk result (h.is_clean new → h.is_open new)

-- a call that only stages: what is loaded and may be found, the device and the count of failures are as they were
pub record OnlyStages {K : Type 0} (h : Holder K) (old new : K) : Type 0 where
  pub content : HoldsSame (h.may_hold old) (h.may_hold new)
  pub loaded : h.is_loaded new ≡ h.is_loaded old
  pub clean : h.is_clean new → h.is_clean old
  pub reached : h.is_open old → h.is_open new
  pub quiet : h.failures new ≡ h.failures old

-- It has loaded this image, it may find nothing else, and it still reaches its device.
pub record HasLoaded {K : Type 0} (h : Holder K) (k : K) (image : Image) : Type 0 where
  pub loaded : h.is_loaded k ≡ true
  pub reached : h.is_clean k → h.is_open k
  pub content : HoldsOnly (h.may_hold k) image
