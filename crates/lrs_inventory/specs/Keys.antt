-- The places of keys among the edits, and their index.
use Rattle.std.specs.Prelude.{◌==◌, zero, suc, slice_index, ◌≡◌, ◌<◌, ◌≤◌, ℕ, List, Option, Some, None, if◌then◌else◌, length, map}
use Rattle.std.specs.BTreeMap.{get}
use Rattle.std.specs.Hash.DefaultHasher as sip
use Rattle.std.specs.List.{position}
use Rattle.std.specs.Ordering.{nat_cmp}
use Rattle.lrs_inventory.specs.Prelude.{Name, same_name, Edit}
use Rattle.lrs_inventory.specs.declared.keys.KeyIndex.{KeyIndex}

-- at which place a key is
abbrev pub place_among : List Edit → Name → Option ℕ
place_among edits key = position (λ e. same_name e.key key) edits

-- the number that stands for a key
unfoldable pub digest : Name → ℕ
digest key = sip.finish (sip.write sip.initial key)

abbrev pub digests : List Edit → List ℕ
digests edits = map (λ e. digest e.key) edits

-- the last place before an end at which a number stands
abbrev pub last_before : List ℕ → ℕ → ℕ → Option ℕ
last_before numbers number zero = None
last_before numbers number (suc place) = if slice_index numbers place == number then Some place else last_before numbers number place

-- Each digest is found at its last place, and from each place the last one before it of the same digest.
pub record IsIndex (keys : KeyIndex) (edits : List Edit) : Type 0 where
  pub newest : (number : ℕ) → get nat_cmp keys.newest number ≡ last_before (digests edits) number (length edits)
  pub earlier : (place : ℕ) → place < length edits → get nat_cmp keys.earlier place ≡ last_before (digests edits) (slice_index (digests edits) place) place
  pub no_more : (place : ℕ) → length edits ≤ place → get nat_cmp keys.earlier place ≡ None

-- Nothing is said of a place yet.
abbrev pub IsNewPlace : ℕ → KeyIndex → Type 0
IsNewPlace place keys = get nat_cmp keys.earlier place ≡ None

-- The key of one more edit is in, and the place that was the last of its digest is found from it.
pub record IsKeyPutIn (key : Name) (place : ℕ) (old new : KeyIndex) : Type 0 where
  pub new_place : IsNewPlace place old
  pub newest : (number : ℕ) → get nat_cmp new.newest number ≡ (if number == digest key then Some place else get nat_cmp old.newest number)
  pub earlier : (other : ℕ) → get nat_cmp new.earlier other ≡ (if other == place then get nat_cmp old.newest (digest key) else get nat_cmp old.earlier other)

-- The same is found in both.
pub record HaveSameKeys (old new : KeyIndex) : Type 0 where
  pub newest : (number : ℕ) → get nat_cmp new.newest number ≡ get nat_cmp old.newest number
  pub earlier : (place : ℕ) → get nat_cmp new.earlier place ≡ get nat_cmp old.earlier place
