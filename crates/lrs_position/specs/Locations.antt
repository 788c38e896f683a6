-- Which chainage a position expression locates on a route (ISO 19148: absolute, relative and interpolative method).
use Rattle.std.specs.Prelude.{◌≡◌, ℕ, ℤ, pos, negsuc, ◌+ℤ◌, ◌+◌, ◌-◌, ◌*◌, ◌/◌, ◌^◌, ◌<◌, nat_lt, min, ◌≤◌, Bool, false, ◌*ℤ◌, is_none, nat_le, if◌then◌else◌, List, length, Option, Some, None, Result, Err}
use Rattle.std.specs.Option.{option_and_then, ok_or}
use Rattle.lrs_measure.specs.Texts.{Name}
use Rattle.lrs_element.specs.declared.link.Ground.{Ground}
use Rattle.lrs_element.specs.declared.marks.Mark.{Mark}
use Rattle.lrs_element.specs.Marks.{IsOnLine, chainage_at}
use Rattle.lrs_position.specs.declared.expression.Expr.{Expr}
use Rattle.lrs_position.specs.declared.expression.Expr.TheVariants.{Abs, Rel, Int}
use Rattle.lrs_position.specs.declared.location.PlaceFault.{PlaceFault}
use Rattle.lrs_position.specs.declared.location.PlaceFault.TheVariants.{NoRef, TooFine, OffRoute}

-- a route as positions see it: its expanded course and its marks
pub record Alignment : Type 0 where
  pub course : List Ground
  pub marks : List Mark

-- the chainage n/d, where it is from 0 to len
abbrev pub within : ℕ → ℤ → ℕ → Option (ℕ × ℕ)
within len (pos n) d = if nat_le n (len * d) then Some (n, d) else None
within len (negsuc n) d = None

-- the chainage at the measure n/d
abbrev pub at_measure : List Mark → ℤ → ℕ → Option (ℕ × ℕ)
at_measure marks (pos n) d = chainage_at marks n d
at_measure marks (negsuc n) d = None

-- the chainage at the proportion n/d of a length
abbrev pub at_proportion : ℕ → ℤ → ℕ → Option (ℕ × ℕ)
at_proportion len (pos n) d = if nat_le n d then Some (n * len, d) else None
at_proportion len (negsuc n) d = None

-- The chainage x/d that an expression locates, where there is one; chainage_on says at which entry of the course a referent stands, if at any.
abbrev pub located : Alignment → (Name → Option ℕ) → Expr → Option (ℕ × ℕ)
located a chainage_on (Abs m) = at_measure a.marks m.num m.den
located a chainage_on (Rel name t) = option_and_then (λ at. within (length a.course) (pos (at * t.den) +ℤ t.num) t.den) (chainage_on name)
located a chainage_on (Int p) = at_proportion (length a.course) p.num p.den

-- whether an expression counts from a referent that is not on the route
abbrev pub lacks_referent : (Name → Option ℕ) → Expr → Bool
lacks_referent chainage_on (Abs m) = false
lacks_referent chainage_on (Rel name t) = is_none (chainage_on name)
lacks_referent chainage_on (Int p) = false

-- whether the denominator is finer than a method takes
abbrev pub is_too_fine : Expr → Bool
is_too_fine (Abs m) = nat_lt (10 ^ 16) m.den
is_too_fine (Rel name t) = nat_lt (10 ^ 16) t.den
is_too_fine (Int p) = nat_lt (10 ^ 21) p.den

-- the chainage that an expression locates, or the first of the faults that it has
abbrev pub located_or_fault : Alignment → (Name → Option ℕ) → Expr → Result (ℕ × ℕ) PlaceFault
located_or_fault a chainage_on e = if lacks_referent chainage_on e then Err NoRef else if is_too_fine e then Err TooFine else ok_or (located a chainage_on e) OffRoute

-- An expression locates the chainage x/d on a route, d above 0: the measure there is the stated one, or x is so far from the referent's entry, or it is the proportion of the length.
abbrev pub Locates : Alignment → (Name → Option ℕ) → Expr → ℕ × ℕ → Type 0
Locates a chainage_on (Abs m) (x, d) = (n : ℕ) × (m.num ≡ pos n) × (0 < d) × IsOnLine a.marks (x, d) (n, m.den)
Locates a chainage_on (Rel name t) (x, d) = (at : ℕ) × (chainage_on name ≡ Some at) × (0 < d) × (pos (x * t.den) ≡ pos (at * t.den * d) +ℤ (t.num *ℤ pos d)) × (x ≤ length a.course * d)
Locates a chainage_on (Int p) (x, d) = (n : ℕ) × (p.num ≡ pos n) × (n ≤ p.den) × (0 < d) × (x * p.den ≡ n * length a.course * d)

-- An end of a stretch goes to the nearest whole millimetre, a half going up.
abbrev pub snap : ℕ × ℕ → ℕ
snap (n, d) = (2 * n + d) / (2 * d)

-- A point stands in the millimetre that its chainage is in; at the end of the route, in the last one.
abbrev pub cell : ℕ → ℕ × ℕ → ℕ
cell len (n, d) = min (n / d) (len - 1)
