-- Where a place of a route is on a link, and the reverse: the link, and the distance from its start (ISO 19148: absolute method along a link).
use Rattle.std.specs.Prelude.{◌≡◌, ◌≢◌, ℕ, pos, ◌+◌, ◌-◌, ◌*◌, Bool, is_none, is_some, if◌then◌else◌, List, length, Option, Some, None, Result, Ok, Err, IsOkAnd, MatchOption, MatchResult, Ok, slice_get, unsigned_abs}
use Rattle.std.specs.List.{find}
use Rattle.std.specs.Option.{option_or}
use Rattle.lrs_measure.specs.Fraction.{Fraction, IsLowest, IsQuotient}
use Rattle.lrs_measure.specs.Texts.{Name}
use Rattle.lrs_element.specs.declared.link.Ground.{Ground}
use Rattle.lrs_element.specs.declared.link.Link.{Link}
use Rattle.lrs_element.specs.Course.{Millimetre, chainage_on}
use Rattle.lrs_position.specs.declared.expression.Expr.{Expr}
use Rattle.lrs_position.specs.declared.location.PlaceFault.{PlaceFault}
use Rattle.lrs_position.specs.declared.location.PlaceFault.TheVariants.{OffRoute}
use Rattle.lrs_position.specs.declared.route.Route.{Route}
use Rattle.lrs_position.specs.Locations.{Alignment, located_or_fault, cell}
use Rattle.lrs_position.specs.Translations.{IsAnswer, IsOnRoute, chainage_fault}

-- The place n/d of one linear element, which stands in its millimetre i, in 1/d mm of another one that has this millimetre as its k-th: behind the start of that where both run one way, before its end where they do not.
abbrev pub across : Bool → ℕ → ℕ → ℕ × ℕ → ℕ
across forward i k (n, d) = if forward then k * d + (n - i * d) else (k + 1) * d - (n - i * d)

-- The chainage x of a course is on this link at this distance from its start. At a seam the later millimetre is meant, at the end the last one.
pub record LiesOn (course : List Ground) (x : Fraction) (link : ℕ) (distance : Fraction) : Type 0 where
  pub ground : Ground
  pub stands : slice_get course (cell (length course) (unsigned_abs x.num, x.den)) ≡ Some ground
  pub same_link : link ≡ ground.link
  pub value : IsQuotient distance (pos (across ground.forward (cell (length course) (unsigned_abs x.num, x.den)) ground.mm (unsigned_abs x.num, x.den))) x.den
  pub lowest : IsLowest distance

-- The answer is the link and the distance of the chainage that an expression locates, or its fault.
abbrev pub IsLinkPosition : Alignment → (Name → Option ℕ) → Expr → Result (ℕ × Fraction) PlaceFault → Type 0
IsLinkPosition a chainage_on e answer =
    (place : Result Fraction PlaceFault) × IsAnswer (located_or_fault a chainage_on e) place × MatchResult place (λ x. IsOkAnd answer (λ p. LiesOn a.course x p.0 p.1)) (λ fault. answer ≡ Err fault)

-- the millimetre of a link in which a distance from its start stands; at the link's end, the last one
abbrev pub millimetre_at : Link → Fraction → Millimetre
millimetre_at link p = (link.number, cell link.length (unsigned_abs p.num, p.den))

-- the route that runs over a millimetre of the ground; where routes share it, the first one
abbrev pub route_over : List Route → Millimetre → Option Route
route_over routes m = find (λ r. is_some (chainage_on r.course m)) routes

-- The distance p from the start of a link is on the route of this name, at the chainage x.
pub record LiesOnRoute (routes : List Route) (link : Link) (p : Fraction) (name : Name) (x : Fraction) : Type 0 where
  pub route : Route
  pub runs_over : route_over routes (millimetre_at link p) ≡ Some route
  pub same_name : name ≡ route.name
  pub at : ℕ
  pub is_at_chainage : chainage_on route.course (millimetre_at link p) ≡ Some at
  pub ground : Ground
  pub stands : slice_get route.course at ≡ Some ground
  pub value : IsQuotient x (pos (across ground.forward (cell link.length (unsigned_abs p.num, p.den)) at (unsigned_abs p.num, p.den))) p.den
  pub lowest : IsLowest x

-- what is wrong with a distance from the start of a link: it is too fine, not on the link, or on no route
abbrev pub link_fault : List Route → Link → Fraction → Option PlaceFault
link_fault routes link p = option_or (chainage_fault link.length p) (if is_none (route_over routes (millimetre_at link p)) then Some OffRoute else None)

-- The answer is the route and the chainage of a distance from the start of a link, or the first fault.
abbrev pub IsRoutePosition : List Route → Link → Fraction → Result (Name × Fraction) PlaceFault → Type 0
IsRoutePosition routes link p answer = MatchOption (link_fault routes link p) (IsOkAnd answer (λ a. LiesOnRoute routes link p a.0 a.1)) (λ fault. answer ≡ Err fault)

-- No two millimetres of the routes are of one millimetre of the ground.
abbrev pub ShareNoGround : List Route → Type 0
ShareNoGround routes =
    (i j : ℕ) (r : Route) (g : Ground) (k l : ℕ) (s : Route) (h : Ground) → slice_get routes i ≡ Some r → slice_get r.course j ≡ Some g → slice_get routes k ≡ Some s → slice_get s.course l ≡ Some h → g.link ≡ h.link → g.mm ≡ h.mm → (i ≡ k) × (j ≡ l)

-- The way back: where the routes share no ground, and a chainage in the middle of a millimetre of one of them is at a distance p on a link that is on it and not too fine, the answer is that route and that chainage.
abbrev pub ComesBack : List Route → Link → Fraction → Result (Name × Fraction) PlaceFault → Type 0
ComesBack routes link p answer =
    ShareNoGround routes → (i : ℕ) (r : Route) (x : Fraction) → slice_get routes i ≡ Some r → IsOnRoute (length r.course) x → IsLowest x → x.den ≢ 1
    → LiesOn r.course x link.number p → chainage_fault link.length p ≡ None → answer ≡ Ok (r.name, x)
