-- Where the chainages of a diagram stand on the page, in tenths of a pixel: from 1,000 to 11,000.
use Rattle.std.specs.Prelude.{ℕ, ◌+◌, ◌-◌, ◌*◌, ◌/◌, min, max, Bool, ◌&&◌, nat_le, List, [], ◌∷◌, unwrap_or}
use Rattle.std.specs.List.{find}
use Rattle.lrs_report.specs.declared.diagrams.scale.Scale.{Scale}

-- where a chainage stands; one before the stretch stands at its start, and one behind it at its end
abbrev pub x_at : Scale → ℕ → ℕ
x_at s chainage = 1_000 + (min chainage s.to - s.from) * 10_000 / (s.to - s.from)

-- how wide a stretch is drawn: a unit at least, so that it can be seen
abbrev pub width_of : Scale → ℕ → ℕ → ℕ
width_of s from to = max (x_at s to - x_at s from) 1

-- whether a chainage stands in the stretch or at its ends
abbrev pub has_place : Scale → ℕ → Bool
has_place s chainage = nat_le s.from chainage && nat_le chainage s.to

-- lengths in millimetres that look well between the ticks of an axis
abbrev pub steps : List ℕ
steps =
    1 ∷ 2 ∷ 5 ∷ 10 ∷ 20 ∷ 50 ∷ 100 ∷ 200 ∷ 500 ∷ 1_000 ∷ 2_000 ∷ 5_000 ∷ 10_000 ∷ 20_000 ∷ 50_000 ∷ 100_000 ∷ 200_000 ∷ 500_000
    ∷ 1_000_000 ∷ 2_000_000 ∷ 5_000_000 ∷ 10_000_000 ∷ 20_000_000 ∷ 50_000_000 ∷ 100_000_000 ∷ 200_000_000 ∷ 500_000_000 ∷ 1_000_000_000 ∷ []

-- how far the ticks of the axis are from each other: the first of these of which ten are no shorter than the stretch
abbrev pub step_of : Scale → ℕ
step_of s = unwrap_or (find (nat_le ((s.to - s.from + 9) / 10)) steps) 1_000_000_000

-- how long a step is on the page
abbrev pub bar_of : Scale → ℕ
bar_of s = step_of s * 10_000 / (s.to - s.from)
