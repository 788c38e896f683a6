-- Lanes: the rows of a class on one side of a route, by where they begin, and the least asset over a stretch of it.
use Rattle.std.specs.Prelude.{◌≡◌, ℕ, Bool, true, false, ◌&&◌, nat_lt, nat_eq, max, min, List, [], ◌∷◌, Option, Some, None}
use Rattle.std.specs.List.{list_any}
use Rattle.lrs_events.specs.declared.span.Span.{Span}

-- what is seen of a lane: its rows, and how many more it takes without taking memory
pub record LaneView : Type 0 where
  pub rows : List Span
  pub room : ℕ

-- the greatest end up to each row, where one before them is given
abbrev pub greatest_from : ℕ → List Span → List ℕ
greatest_from g [] = []
greatest_from g (r ∷ rs) = max g r.to ∷ greatest_from (max g r.to) rs

-- the last of numbers, where one before them is given
abbrev pub last_from : ℕ → List ℕ → ℕ
last_from n [] = n
last_from n (m ∷ ms) = last_from m ms

-- whether the row has a millimetre of the stretch from low up to high
abbrev pub is_met : ℕ → ℕ → Span → Bool
is_met low high r = nat_lt r.from high && nat_lt low r.to

-- the least asset of the rows that pass a test
abbrev pub IsLeast : (Span → Bool) → List Span → Option ℕ → Type 0
IsLeast test rows None = list_any test rows ≡ false
IsLeast test rows (Some asset) = (list_any (λ r. test r && nat_eq r.asset asset) rows ≡ true) × (list_any (λ r. test r && nat_lt r.asset asset) rows ≡ false)

-- the lesser of the least asset so far, if there is one, and one more
abbrev pub least_with : Option ℕ → ℕ → ℕ
least_with None asset = asset
least_with (Some least) asset = min least asset
