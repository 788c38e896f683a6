-- What the calls on a route answer: which chainage an expression locates, which expression locates a chainage, and the way from one method to another and back (ISO 19148: position expression).
use Rattle.std.specs.Prelude.{◌≡◌, ℕ, pos, ◌*◌, ◌≤ℤ◌, ◌^◌, nat_lt, Bool, false, is_none, if◌then◌else◌, IsTrue, List, length, Option, Some, None, Result, Ok, Err, IsOkAnd, MatchOption, MatchResult}
use Rattle.std.specs.List.{find}
use Rattle.std.specs.Option.{option_map}
use Rattle.lrs_measure.specs.Fraction.{Fraction, IsLowest, IsQuotient}
use Rattle.lrs_measure.specs.Texts.{Name, same_name}
use Rattle.lrs_measure.specs.Limits.{longest_route}
use Rattle.lrs_position.specs.declared.expression.Expr.{Expr}
use Rattle.lrs_position.specs.declared.expression.Expr.TheVariants as expression
use Rattle.lrs_position.specs.declared.expression.Target.{Target}
use Rattle.lrs_position.specs.declared.expression.Target.TheVariants as target
use Rattle.lrs_position.specs.declared.location.PlaceFault.{PlaceFault}
use Rattle.lrs_position.specs.declared.location.PlaceFault.TheVariants.{NoRef, TooFine, OffRoute}
use Rattle.lrs_position.specs.declared.route.Referent.{Referent}
use Rattle.lrs_position.specs.declared.route.Route.{Route}
use Rattle.lrs_position.specs.Expressions.{is_entered}
use Rattle.lrs_position.specs.Locations.{Alignment, Locates, located_or_fault, within}

-- a route as positions see it
abbrev pub alignment_of : Route → Alignment
alignment_of route = record { course = route.course; marks = route.marks }

-- at which entry the referent of a name stands
abbrev pub referent_at : List Referent → Name → Option ℕ
referent_at refs name = option_map (λ r. r.at) (find (λ r. same_name r.name name) refs)

-- the number that an expression states: a measure, a distance or a proportion
abbrev pub number_of : Expr → Fraction
number_of (expression.Abs m) = m
number_of (expression.Rel name t) = t
number_of (expression.Int p) = p

-- the method of an expression, and the referent from which it counts
abbrev pub target_of : Expr → Target
target_of (expression.Abs m) = target.Abs
target_of (expression.Rel name t) = target.Rel name
target_of (expression.Int p) = target.Int

-- whether a target counts from a referent that is not on the route
abbrev pub misses_referent : (Name → Option ℕ) → Target → Bool
misses_referent chainage_on (target.Abs) = false
misses_referent chainage_on (target.Rel name) = is_none (chainage_on name)
misses_referent chainage_on (target.Int) = false

-- An expression locates the chainage x.
abbrev pub LocatesAt : Alignment → (Name → Option ℕ) → Expr → Fraction → Type 0
LocatesAt a chainage_on e x = (n : ℕ) × (x.num ≡ pos n) × Locates a chainage_on e (n, x.den)

-- a chainage on a route of this length
pub record IsOnRoute (len : ℕ) (x : Fraction) : Type 0 where
  pub from : pos 0 ≤ℤ x.num
  pub to : x.num ≤ℤ pos (len * x.den)
  pub limit : x.num ≤ℤ pos (longest_route * x.den)

-- The answer is the chainage n/d in lowest terms, or the fault.
abbrev pub IsAnswer : Result (ℕ × ℕ) PlaceFault → Result Fraction PlaceFault → Type 0
IsAnswer (Ok (n, d)) answer = IsOkAnd answer (λ x. IsQuotient x (pos n) d × IsLowest x)
IsAnswer (Err fault) answer = answer ≡ Err fault

-- The expression is by the target's method, counts from its referent, is in lowest terms, and locates the chainage x.
pub record Expresses (a : Alignment) (chainage_on : Name → Option ℕ) (x : Fraction) (target : Target) (e : Expr) : Type 0 where
  pub method : target_of e ≡ target
  pub lowest : IsLowest (number_of e)
  pub located : LocatesAt a chainage_on e x

-- what is wrong with a chainage on a route of this length, or with a distance along a link of this length
abbrev pub chainage_fault : ℕ → Fraction → Option PlaceFault
chainage_fault len x = if nat_lt (10 ^ 16) x.den then Some TooFine else if is_none (within len x.num x.den) then Some OffRoute else None

-- the first of the faults that a chainage and a target have
abbrev pub express_fault : Alignment → (Name → Option ℕ) → Fraction → Target → Option PlaceFault
express_fault a chainage_on x target = if misses_referent chainage_on target then Some NoRef else chainage_fault (length a.course) x

-- The answer is the expression of the chainage x by the target, or the first fault.
abbrev pub IsExpression : Alignment → (Name → Option ℕ) → Fraction → Target → Result Expr PlaceFault → Type 0
IsExpression a chainage_on x target answer = MatchOption (express_fault a chainage_on x target) (IsOkAnd answer (Expresses a chainage_on x target)) (λ fault. answer ≡ Err fault)

-- The answer is that of locating an expression and then expressing its chainage by the target.
abbrev pub Translates : Alignment → (Name → Option ℕ) → Expr → Target → Result Expr PlaceFault → Type 0
Translates a chainage_on e target answer =
    (place : Result Fraction PlaceFault) × IsAnswer (located_or_fault a chainage_on e) place × MatchResult place (λ x. IsExpression a chainage_on x target answer) (λ fault. answer ≡ Err fault)

-- The round trip: an entered expression that locates a chainage is translated by every target whose referent is on the route, to an expression that locates the same chainage; and whatever translating that one back to the first one's method and referent answers is the first one.
abbrev pub RoundTrip : Alignment → (Name → Option ℕ) → Expr → Target → Result Expr PlaceFault → Type 0
RoundTrip a chainage_on e target answer =
    IsTrue (is_entered e) → (x : ℕ × ℕ) → Locates a chainage_on e x → misses_referent chainage_on target ≡ false
    → IsOkAnd answer (λ there. Locates a chainage_on there x × ((back : Result Expr PlaceFault) → Translates a chainage_on there (target_of e) back → back ≡ Ok e))
