-- The maximal runs of equal values in a list, as linear segments and canonical rows are (ISO 19148: linear segment).
use Rattle.std.specs.Prelude.{ℕ, ◌+◌, Bool, if◌then◌else◌, List, [], ◌∷◌, Option, Some, None, true, false}

-- the places from up to to have one value
pub record Run (A : Type 0) : Type 0 where
  pub from : ℕ
  pub to : ℕ
  pub value : A

-- the runs of a list whose first place is j and has this value, where the rest has these runs
abbrev pub longer : {A : Type 0} → (A → A → Bool) → ℕ → A → List (Run A) → List (Run A)
longer same j x [] = record { from = j; to = j + 1; value = x } ∷ []
longer same j x (r ∷ rs) = if same x r.value then record { from = j; to = r.to; value = x } ∷ rs else record { from = j; to = j + 1; value = x } ∷ r ∷ rs

-- the maximal runs of a list whose first place is j
abbrev pub runs_from : {A : Type 0} → (A → A → Bool) → ℕ → List A → List (Run A)
runs_from same j [] = []
runs_from same j (x ∷ xs) = longer same j x (runs_from same (j + 1) xs)

-- the maximal runs of equal values
abbrev pub runs_of : {A : Type 0} → (A → A → Bool) → List A → List (Run A)
runs_of same xs = runs_from same 0 xs

-- both are missing, or both have the same
abbrev pub same_option : {A : Type 0} → (A → A → Bool) → Option A → Option A → Bool
same_option same None None = true
same_option same None (Some y) = false
same_option same (Some x) None = false
same_option same (Some x) (Some y) = same x y
