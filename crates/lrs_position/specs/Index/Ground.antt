-- Ground: which route runs over each millimetre of the links, kept as stretches.
use Rattle.std.specs.Prelude.{◌≡◌, ℕ, ◌+◌, ◌<◌, ◌≤◌, Bool, false, not, nat_lt, if◌then◌else◌, List, [], ◌∷◌, Option, Some, None, is_some, option_and_then, refl}
use Rattle.std.specs.Coded.{Coded, code_by, coded×, coded_ℕ, coded_list}
use Rattle.std.specs.Option.{option_or}
use Rattle.std.specs.List.{range_with_len, list_any, AllByRecursion}
use Rattle.std.specs.Ordering.{nat_cmp, ordering_then}
use Rattle.std.specs.declared.cmp.Ordering.{Ordering}
use Rattle.std.specs.FinMap.{FinMap, get}
use Rattle.lrs_measure.specs.Lists.{each_two}
use Rattle.lrs_measure.specs.Texts.{Name}
use Rattle.lrs_element.specs.declared.link.Piece.{Piece}
use Rattle.lrs_element.specs.declared.link.Ground.{Ground}
use Rattle.lrs_element.specs.Course.{Millimetre, course_of, runs_over, is_at}
use Rattle.lrs_position.specs.declared.ground_index.LinkStretch.{LinkStretch}

-- by link, and then along it
abbrev pub millimetre_cmp : Millimetre → Millimetre → Ordering
millimetre_cmp x y = ordering_then (nat_cmp x.0 y.0) (nat_cmp x.1 y.1)

-- a stretch is stored as the pair of its fields
abbrev pub stretch_code : Coded LinkStretch
stretch_code = code_by (ℕ × Name) (coded× coded_ℕ (coded_list coded_ℕ)) (λ s. (s.end, s.route)) (λ p. record { end = p.0; route = p.1 }) (λ _. refl)

-- stretches of links: for the millimetre where one begins, the edge where it ends and the route that runs over it
abbrev pub Stretches : Type 0
Stretches = FinMap millimetre_cmp LinkStretch

-- the route of a stretch that ends behind the millimetre
abbrev pub reaching : ℕ → LinkStretch → Option Name
reaching mm s = if nat_lt mm s.end then Some s.route else None

-- the first of the answers that is one
abbrev pub first_some : {X Y : Type 0} → (X → Option Y) → List X → Option Y
first_some f [] = None
first_some f (x ∷ xs) = option_or (f x) (first_some f xs)

-- the route whose stretch has the millimetre: it begins there or before it on the link, and ends behind it
abbrev pub route_over : Stretches → Millimetre → Option Name
route_over kept m = first_some (λ a. option_and_then (reaching m.1) (get kept (m.0, a))) (range_with_len 0 (m.1 + 1))

-- whether a route runs over a millimetre of the course
abbrev pub is_shared : Stretches → List Ground → Bool
is_shared kept course = list_any (λ g. is_some (route_over kept (g.link, g.mm))) course

-- no millimetre stands twice in the course
abbrev pub is_run_once : List Ground → Bool
is_run_once course = each_two (λ g h. not (is_at (g.link, g.mm) h)) course

-- the piece is a stretch of its own, for the route
abbrev pub IsStretch : Stretches → Name → Piece → Type 0
IsStretch kept route p = get kept (p.link, p.from) ≡ Some (record { end = p.to; route = route })

-- whether the piece begins at the millimetre, seen along its link
abbrev pub begins_at : Millimetre → Piece → Bool
begins_at m p = is_at m (record { link = p.link; mm = p.from; forward = p.forward })

-- The route has gained the ground of the pieces, each as a stretch of its own.
pub record HasGained (old new : Stretches) (route : Name) (pieces : List Piece) : Type 0 where
  pub over : (m : Millimetre) → route_over new m ≡ (if runs_over (course_of pieces) m then Some route else route_over old m)
  pub stretches : AllByRecursion (IsStretch new route) pieces
  pub begun : AllByRecursion (λ p. get old (p.link, p.from) ≡ None) pieces
  pub others : (m : Millimetre) → list_any (begins_at m) pieces ≡ false → get new m ≡ get old m

-- A stretch that has a millimetre of the piece lies within it.
pub record IsWhole (kept : Stretches) (p : Piece) : Type 0 where
  pub begins : (m a : ℕ) (s : LinkStretch) → get kept (p.link, a) ≡ Some s → a ≤ m → m < s.end → p.from ≤ m → m < p.to → p.from ≤ a
  pub ends : (m a : ℕ) (s : LinkStretch) → get kept (p.link, a) ≡ Some s → a ≤ m → m < s.end → p.from ≤ m → m < p.to → s.end ≤ p.to

-- No stretch crosses an edge of a piece: it lies wholly within the piece or wholly outside it.
abbrev pub AreWhole : Stretches → List Piece → Type 0
AreWhole kept pieces = AllByRecursion (IsWhole kept) pieces

-- What was whole is whole.
abbrev pub StaysWhole : Stretches → Stretches → Type 0
StaysWhole old new = (pieces : List Piece) → AreWhole old pieces → AreWhole new pieces
