-- What makes runs the maximal runs of a list.
use Rattle.std.specs.Prelude.{◌≡◌, ◌↔◌, ℕ, ◌+◌, ◌<◌, ◌≤◌, Bool, true, ◌&&◌, not, List, [], ◌∷◌, length, Some, slice_get}
use Rattle.lrs_measure.specs.Runs.{Run, runs_of}

-- the runs begin at one place, each next one where the last ended, and the last ends at the other place
abbrev pub IsChain : {A : Type 0} → ℕ → ℕ → List (Run A) → Type 0
IsChain from to [] = from ≡ to
IsChain from to (r ∷ rs) = (r.from ≡ from) × (r.from < r.to) × IsChain r.to to rs

-- each place of a list whose first place is j has the value of its run
abbrev pub HaveValues : {A : Type 0} → ℕ → List A → List (Run A) → Type 0
HaveValues j xs [] = Unit {0}
HaveValues j xs (r ∷ rs) = ((k : ℕ) → r.from ≤ j + k → j + k < r.to → slice_get xs k ≡ Some r.value) × HaveValues j xs rs

-- the first of the runs, if there is one, has another value
abbrev pub begin_other : {A : Type 0} → (A → A → Bool) → A → List (Run A) → Bool
begin_other same x [] = true
begin_other same x (r ∷ rs) = not (same x r.value)

-- neighbours have different values
abbrev pub neighbours_differ : {A : Type 0} → (A → A → Bool) → List (Run A) → Bool
neighbours_differ same [] = true
neighbours_differ same (r ∷ rs) = begin_other same r.value rs && neighbours_differ same rs

-- the runs cover a list whose first place is j, each with one value, and none can be longer
pub record AreRuns (A : Type 0) (same : A → A → Bool) (j : ℕ) (xs : List A) (rs : List (Run A)) : Type 0 where
  pub cover : IsChain j (j + length xs) rs
  pub values : HaveValues j xs rs
  pub maximal : neighbours_differ same rs ≡ true

-- the test tells which values are equal
pub record Decides (A : Type 0) (same : A → A → Bool) : Type 0 where
  pub itself : (x : A) → same x x ≡ true
  pub equal : (x y : A) → same x y ≡ true → x ≡ y

-- A list has one list of maximal runs: that of `runs_of`.
abbrev pub RunsAreOne : (A : Type 0) → Type 0
RunsAreOne A = (same : A → A → Bool) → Decides A same → (xs : List A) (rs : List (Run A)) → AreRuns A same 0 xs rs ↔ (rs ≡ runs_of same xs)
