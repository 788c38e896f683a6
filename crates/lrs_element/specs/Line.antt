-- The line that the marks of a route draw: which measure a chainage has, and which chainage a measure is at (ISO 19148: absolute linear referencing method).
use Rattle.std.specs.Prelude.{◌≡◌, ℕ, ◌+◌, ◌*◌, max, ◌<◌, ◌≤◌, pos, ◌≤ℤ◌, List, length, slice_get, Some, slice_index_or, ◌⊎◌}
use Rattle.lrs_measure.specs.Fraction.{Fraction}
use Rattle.lrs_measure.specs.Limits.{finest, greatest_measure, longest_route}
use Rattle.lrs_element.specs.declared.marks.Mark.{Mark}
use Rattle.lrs_element.specs.Marks.{IsOnLine, first_mark, last_mark}

-- the fraction is from first to last, and not too fine
pub record IsReadable (first last : ℕ) (q : Fraction) : Type 0 where
  pub fine : q.den ≤ finest
  pub from : pos (first * q.den) ≤ℤ q.num
  pub to : q.num ≤ℤ pos (last * q.den)

-- the chainage c has the measure m on the line of the marks
pub record HasMeasure (marks : List Mark) (c m : Fraction) : Type 0 where
  pub along : ℕ
  pub reading : ℕ
  pub chainage : c.num ≡ pos along
  pub measure : m.num ≡ pos reading
  pub line : IsOnLine marks (along, c.den) (reading, m.den)

-- the second mark is above the first in both
pub record Rises (p q : Mark) : Type 0 where
  pub chainage : p.chainage < q.chainage
  pub measure : p.measure < q.measure

abbrev pub chainage_of : Mark → ℕ
chainage_of m = m.chainage

abbrev pub measure_of : Mark → ℕ
measure_of m = m.measure

-- the marks before the k-th, and no others, are below n/d on one of the two scales
pub record IsFirstFrom (place : Mark → ℕ) (marks : List Mark) (n d k : ℕ) : Type 0 where
  pub bound : k ≤ length marks
  pub before : (i : ℕ) (z : Mark) → i < k → place (slice_index_or marks i z) * d < n
  pub after : (i : ℕ) (z : Mark) → k ≤ i → i < length marks → n ≤ place (slice_index_or marks i z) * d

-- the mark before place at of the list and the one there; for the first place, the first two
pub record AreAt (marks : List Mark) (at : ℕ) (p q : Mark) : Type 0 where
  pub index : ℕ
  pub place : index + 1 ≡ max at 1
  pub first : slice_get marks index ≡ Some p
  pub next : slice_get marks (index + 1) ≡ Some q

-- two marks that stand one after the other, with n/d from one to the other on one of the two scales
pub record AreRound (place : Mark → ℕ) (marks : List Mark) (n d : ℕ) (p q : Mark) : Type 0 where
  pub index : ℕ
  pub first : slice_get marks index ≡ Some p
  pub next : slice_get marks (index + 1) ≡ Some q
  pub rise : Rises p q
  pub limit : q.measure ≤ greatest_measure
  pub end : q.chainage ≤ longest_route
  pub from : place p * d ≤ n
  pub to : n ≤ place q * d

-- n/d is below the first mark or above the last one on one of the two scales
abbrev pub IsOutside : (Mark → ℕ) → List Mark → ℕ → ℕ → Type 0
IsOutside place marks n d = (n < place (first_mark marks) * d) ⊎ (place (last_mark marks) * d < n)
