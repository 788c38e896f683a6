-- Totals: how many side millimetres of assets a set of (asset, place) pairs has.
use Rattle.std.specs.Prelude.{ℕ, Bool, List, sum_by}
use Rattle.std.specs.List.{count_by}
use Rattle.lrs_events.specs.Places.{Place}

-- how many of the pairs are of these assets and these places
abbrev pub total_of : List ℕ → List Place → (ℕ → Place → Bool) → ℕ
total_of assets places set = sum_by (λ asset. count_by (set asset) places) assets
