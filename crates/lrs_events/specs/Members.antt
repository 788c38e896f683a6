-- What rows stand for: which asset of which class holds which millimetre of a route, and on which side of it. B is both
-- sides (ISO 19148: linearly located event, lateral offset).
use Rattle.std.specs.Prelude.{◌≡◌, ℕ, Bool, true, false, ◌&&◌, nat_lt, nat_le, nat_eq, List}
use Rattle.std.specs.List.{list_any}
use Rattle.lrs_measure.specs.Texts.{Name, same_name}
use Rattle.lrs_events.specs.declared.side.Side.{Side}
use Rattle.lrs_events.specs.declared.side.Side.TheVariants.{L, R, B}
use Rattle.lrs_events.specs.declared.side.LinkSide.{LinkSide}
use Rattle.lrs_events.specs.declared.side.LinkSide.TheVariants.{Left, Right}
use Rattle.lrs_events.specs.declared.span.Span.{Span}

-- whether a side of a course or both have this side of it
abbrev pub has_side : Side → LinkSide → Bool
has_side L Left = true
has_side L Right = false
has_side R Left = false
has_side R Right = true
has_side B s = true

-- a test of chainage and side
abbrev pub Picks : Type 0
Picks = ℕ → LinkSide → Bool

-- from up to to, on a side or both
abbrev pub between : ℕ → ℕ → Side → Picks
between from to side j s = nat_le from j && nat_lt j to && has_side side s

-- whether the row is of the asset and over the millimetre on the side
abbrev pub stands_for : Span → ℕ → Picks
stands_for r asset j s = nat_eq r.asset asset && between r.from r.to r.side j s

-- ... and of the class
abbrev pub has_member : Span → Name → ℕ → Picks
has_member r class asset j s = same_name r.class class && stands_for r asset j s

-- whether these rows say that the asset of the class holds the millimetre on the side
abbrev pub is_member : List Span → Name → ℕ → Picks
is_member rows class asset j s = list_any (λ r. has_member r class asset j s) rows

-- two lists of rows stand for the same
abbrev pub SameMembers : List Span → List Span → Type 0
SameMembers xs ys = (class : Name) (asset j : ℕ) (s : LinkSide) → is_member xs class asset j s ≡ is_member ys class asset j s
