-- Marks: the measure line of a route (ISO 19148: absolute linear referencing method).
use Rattle.std.specs.Prelude.{◌≡◌, ℕ, ◌+◌, ◌-◌, ◌*◌, ◌≤◌, Bool, false, ◌||◌, ◌&&◌, not, nat_lt, nat_le, nat_eq, if◌then◌else◌, List, [], ◌∷◌, ◌++◌, map, reverse, length, drop, filter, Option, Some, None, is_none, ◌⊎◌}
use Rattle.std.specs.List.{list_any}
use Rattle.std.specs.Option.{option_map}
use Rattle.lrs_element.specs.declared.marks.Mark.{Mark}
use Rattle.lrs_measure.specs.Limits.{greatest_measure, most_marks}

abbrev pub no_mark : Mark
no_mark = record { chainage = 0; measure = 0 }

abbrev pub last_of : Mark → List Mark → Mark
last_of m [] = m
last_of m (next ∷ rest) = last_of next rest

abbrev pub first_mark : List Mark → Mark
first_mark [] = no_mark
first_mark (m ∷ rest) = m

abbrev pub last_mark : List Mark → Mark
last_mark marks = last_of no_mark marks

-- whether a mark is not above the one before it in both, or where it is the first, not at chainage 0
abbrev pub is_out_of_order : Option Mark → Mark → Bool
is_out_of_order None m = not (nat_eq m.chainage 0)
is_out_of_order (Some before) m = not (nat_lt before.chainage m.chainage && nat_lt before.measure m.measure)

-- whether a mark is the last, and not at the end of a course of this length
abbrev pub misses_the_end : ℕ → Mark → List Mark → Bool
misses_the_end len m [] = not (nat_eq m.chainage len)
misses_the_end len m (next ∷ rest) = false

-- the first mark that breaks a rule, for a course of this length
abbrev pub first_bad_mark : ℕ → Option Mark → List Mark → Option ℕ
first_bad_mark len before [] = None
first_bad_mark len before (m ∷ rest) =
    if is_out_of_order before m || nat_lt greatest_measure m.measure || misses_the_end len m rest
    then Some 0 else option_map (λ i. i + 1) (first_bad_mark len (Some m) rest)

-- what is wrong with a list of marks, its count first: 0 for fewer than two, 1,000 for more than that
abbrev pub bad_mark : ℕ → List Mark → Option ℕ
bad_mark len marks = if nat_lt (length marks) 2 then Some 0 else if nat_lt most_marks (length marks) then Some most_marks else first_bad_mark len None marks

-- the marks of some course
abbrev pub are_marks : List Mark → Bool
are_marks marks = is_none (bad_mark (last_mark marks).chainage marks)

-- The chainage x/d is at the measure n/e between two marks: (m - m1) (c2 - c1) = (c - c1) (m2 - m1), cleared of denominators.
pub record IsBetween (p q : Mark) (x d n e : ℕ) : Type 0 where
  pub from : p.chainage * d ≤ x
  pub to : x ≤ q.chainage * d
  pub above : p.measure * e ≤ n
  pub line : (n - p.measure * e) * (q.chainage - p.chainage) * d ≡ (x - p.chainage * d) * (q.measure - p.measure) * e

-- The chainage x/d is at the measure n/e on the line of the marks: between some neighbours.
abbrev pub IsOnLine : List Mark → ℕ × ℕ → ℕ × ℕ → Type 0
IsOnLine [] x m = ⊥
IsOnLine (p ∷ []) x m = ⊥
IsOnLine (p ∷ q ∷ rest) x m = IsBetween p q x.0 x.1 m.0 m.1 ⊎ IsOnLine (q ∷ rest) x m

-- the chainage at the measure n/e between two marks
abbrev pub chainage_between : Mark → Mark → ℕ → ℕ → ℕ × ℕ
chainage_between p q n e = (p.chainage * e * (q.measure - p.measure) + (n - p.measure * e) * (q.chainage - p.chainage), e * (q.measure - p.measure))

-- the chainage at the measure n/e, if that is within the marks
abbrev pub chainage_at : List Mark → ℕ → ℕ → Option (ℕ × ℕ)
chainage_at [] n e = None
chainage_at (p ∷ []) n e = None
chainage_at (p ∷ q ∷ rest) n e = if nat_le (p.measure * e) n && nat_le n (q.measure * e) then Some (chainage_between p q n e) else chainage_at (q ∷ rest) n e

-- whether a mark other than the first and the last stands at the chainage
abbrev pub is_inner_mark : List Mark → ℕ → Bool
is_inner_mark marks at = nat_lt 0 at && nat_lt at (last_mark marks).chainage && list_any (λ m. nat_eq m.chainage at) marks

-- the marks up to the one at a chainage
abbrev pub marks_to : ℕ → List Mark → List Mark
marks_to at marks = filter (λ m. nat_le m.chainage at) marks

-- those from it on, their chainages counted from there
abbrev pub marks_from : ℕ → List Mark → List Mark
marks_from at marks = map (λ m. record { chainage = m.chainage - at; measure = m.measure }) (filter (λ m. nat_le at m.chainage) marks)

-- The second list goes on where the first ends: its first mark is the first's last, and its measures move by as much as that asks.
abbrev pub joined_marks : List Mark → List Mark → List Mark
joined_marks first second = first ++ map (λ m. record { chainage = m.chainage + (last_mark first).chainage; measure = (m.measure + (last_mark first).measure) - (first_mark second).measure }) (drop 1 second)

-- seen from the other end: (c, m) becomes (length - c, first + last - m)
abbrev pub mirrored : List Mark → List Mark
mirrored marks = reverse (map (λ m. record { chainage = (last_mark marks).chainage - m.chainage; measure = ((first_mark marks).measure + (last_mark marks).measure) - m.measure }) marks)

-- whether a measure is above the greatest one
abbrev pub is_out_of_range : List Mark → Bool
is_out_of_range marks = list_any (λ m. nat_lt greatest_measure m.measure) marks
