-- What is answered at the position of a chainage stands at that chainage.
use Rattle.std.proofs.Common.{◌≡◌, ℕ, ◌*◌, ◌^◌, ◌<◌, ◌≤◌, false, cond, length, Option, Some, Result, Ok, Err, sym, ap, subst, ◌∙◌, arith, ℤ, pos, ◌*ℤ◌, unsigned_abs}
use Rattle.std.specs.Prelude.{MatchOption, MatchResult}
use Rattle.std.specs.List as list
use Rattle.std.specs.Option.{ok_or}
use Rattle.std.specs.Cmp.Lexicographic.{texts_ties}
use Rattle.std.proofs.Math.Nat.{le_of_dvd, one-dvd}
use Rattle.std.proofs.lemmas.Bool.{le-ltb}
use Rattle.lrs_measure.specs.Fraction.{Fraction, IsLowest, IsQuotient}
use Rattle.lrs_measure.specs.Texts.{Name}
use Rattle.lrs_measure.proofs.Lowest.{den_divides}
use Rattle.lrs_position.specs.declared.expression.Expr.{Expr}
use Rattle.lrs_position.specs.declared.expression.Expr.TheVariants.{Abs, Rel, Int}
use Rattle.lrs_position.specs.declared.expression.Target.TheVariants as target
use Rattle.lrs_position.specs.declared.location.PlaceFault.{PlaceFault}
use Rattle.lrs_position.specs.declared.location.PlaceFault.TheVariants.{NoRef, TooFine, OffRoute}
use Rattle.lrs_position.specs.Locations.{Alignment, Locates, located, located_or_fault, lacks_referent, is_too_fine, cell}
use Rattle.lrs_position.specs.Readings.{whole}
use Rattle.lrs_position.specs.Translations.{alignment_of, referent_at, number_of, target_of}
use Rattle.lrs_position.proofs.Located as place
use Rattle.lrs_position.proofs.Located.{located-sound, Locates-within}
use Rattle.lrs_position.proofs.Answering.{IsSound-from_route, answer_ok, found_value, lacks_not}
use Rattle.lrs_machine.specs.declared.image.Image.{Image}
use Rattle.lrs_machine.specs.declared.image.RouteRow.{RouteRow}
use Rattle.lrs_machine.specs.Image.{state_of}
use Rattle.lrs_machine.specs.Machine.{referent_chainage}
use Rattle.lrs_machine.specs.Register.{get}
use Rattle.lrs_machine.specs.Sound.{IsSound}
use Rattle.lrs_report_answers.specs.declared.fault.AskFault.{AskFault}
use Rattle.lrs_report_answers.specs.declared.fault.AskFault.TheVariants.{Place}
use Rattle.lrs_report_answers.specs.declared.hits.AtAnswer.{AtAnswer}
use Rattle.lrs_report_answers.specs.Answers.{IsRouteIn, UnlessMemory, StandsAt, IsAt, route_missing}
use Rattle.lrs_report_answers.proofs.Asked.{route_is, referents_are}
use Rattle.lrs_report_answers.proofs.Located.{same_cell}
use Rattle.lrs_report_answers.specs.Place.Answers.{IsPosition}

-- ---- by the interpolative method a whole chainage is never too fine

proportion_fine : (p : Fraction) (n m len : ℕ) → IsLowest p → p.num ≡ pos m → n * p.den ≡ m * len * 1 → 0 < len → len ≤ 10_000_000_000 → p.den ≤ 10 ^ 21
proportion_fine p n m len low num value positive longest =
    let even : m * len ≡ n * p.den = omega (arith, value) in
    let q : IsQuotient p (pos n) len = subst (λ (z : ℤ). z *ℤ pos len ≡ pos n *ℤ pos p.den) (sym num) (ap pos even) in
    let small : p.den ≤ len = le_of_dvd positive (den_divides p (pos n) len low q) in
    omega (arith, small, longest)

fine : (a : Alignment) (chainage_on : Name → Option ℕ) (e : Expr) (n : ℕ) → place.IsSound a → target_of e ≡ target.Int → IsLowest (number_of e) → Locates a chainage_on e (n, 1) → is_too_fine e ≡ false
fine a chainage_on (Abs m) n s method low l = absurd (cc method)
fine a chainage_on (Rel name t) n s method low l = absurd (cc method)
fine a chainage_on (Int p) n s method low l = le-ltb (10 ^ 21) p.den (proportion_fine p n l.0 (length a.course) low l.1 l.4 s.positive s.longest)

-- ---- where it stands

IsLowest-whole : (n : ℕ) → IsLowest (whole (pos n))
IsLowest-whole n = record { positive = omega arith; coprime = (one-dvd n, one-dvd 1, λ d p q. q) }

pos_is : (k n : ℕ) → pos k ≡ pos n → n ≡ k
pos_is k n h = sym (ap unsigned_abs h)

-- what a position of a chainage locates has the value of the chainage
record IsLocatedAt (a : Alignment) (chainage_on : Name → Option ℕ) (e : Expr) (k : ℕ) : Type 0 where
  y : ℕ × ℕ
  found : located_or_fault a chainage_on e ≡ Ok y
  positive : 0 < y.1
  value : k * y.1 ≡ y.0 * 1

module _ (a : Alignment) (chainage_on : Name → Option ℕ) (e : Expr) (k n : ℕ) (s : place.IsSound a) (method : target_of e ≡ target.Int) (low : IsLowest (number_of e)) (num : pos k ≡ pos n) (l : Locates a chainage_on e (n, 1)) where
  lacks : lacks_referent chainage_on e ≡ false
  lacks = lacks_not a chainage_on e (n, 1) l

  not_fine : is_too_fine e ≡ false
  not_fine = fine a chainage_on e n s method low l

  located_at : IsLocatedAt a chainage_on e k
  located_at =
      let answer = answer_ok a chainage_on e (whole (pos k)) s low.positive lacks not_fine (n, num, l) (IsLowest-whole k) in
      let v = found_value (lacks_referent chainage_on e) (is_too_fine e) (located a chainage_on e) (whole (pos k)) answer in
      record {
        y = v.0;
        found =
            (λ j. cond (lacks j) (Err NoRef) (cond (not_fine j) (Err TooFine) (ok_or (v.1 j) OffRoute)));
        positive = (Locates-within a chainage_on e v.0 s low.positive (located-sound a chainage_on e v.0 s low.positive v.1)).0;
        value = ap unsigned_abs v.2;
      }

-- ---- in an image

module _ (i : Image) (r : RouteRow) (sound : IsSound i) (known : IsRouteIn i r) where
  route_value : Some (alignment_of r.route) ≡ get (state_of i).routes r.route.name
  route_value = route_is i r.route.name (Some r) (sym known ∙ (λ j. list.find (λ e. texts_ties e.route.name r.route.name j) i.routes))

  module _ (k : ℕ) (e : Expr) (is : IsPosition r.route k target.Int e) (result : Result AtAnswer AskFault) where
    abbrev Asked : (Name → Option ℕ) → Type 0
    Asked chainage_on = MatchResult (located_or_fault (alignment_of r.route) chainage_on e) (λ x. UnlessMemory (StandsAt (state_of i) (alignment_of r.route) x) result) (λ fault. result ≡ Err (Place fault))

    asked : IsAt (state_of i) r.route.name e result → Asked (referent_at r.route.refs)
    asked h =
        let on : Asked (referent_chainage (state_of i) (alignment_of r.route)) =
        subst (λ (o : Option Alignment). MatchOption o (result ≡ Err route_missing) (λ a. MatchResult (located_or_fault a (referent_chainage (state_of i) a) e) (λ x. UnlessMemory (StandsAt (state_of i) a x) result) (λ fault. result ≡ Err (Place fault)))) (sym route_value) h in
        subst Asked (sym (referents_are i r sound known)) on

    at_value : (y : ℕ × ℕ) → cell (length r.route.course) y ≡ cell (length r.route.course) (k, 1) → (result : Result AtAnswer AskFault) → UnlessMemory (StandsAt (state_of i) (alignment_of r.route) y) result → UnlessMemory (StandsAt (state_of i) (alignment_of r.route) (k, 1)) result
    at_value y same (Ok found) h = record { at = h.at ∙ same; ground = h.ground; hits = h.hits }
    at_value y same (Err fault) h = h

    -- The answer at the position of a chainage is what stands at the chainage.
    pub stands : IsAt (state_of i) r.route.name e result → UnlessMemory (StandsAt (state_of i) (alignment_of r.route) (k, 1)) result
    stands h =
        let a = alignment_of r.route in
        let on = is.located in
        let l = located_at a (referent_at r.route.refs) e k on.0 (IsSound-from_route r.route) is.method is.lowest on.1 on.2 in
        let here = subst (λ (place : Result (ℕ × ℕ) PlaceFault). MatchResult place (λ x. UnlessMemory (StandsAt (state_of i) a x) result) (λ fault. result ≡ Err (Place fault))) l.found (asked h) in
        at_value l.y (same_cell (length r.route.course) k l.y.1 l.y.0 1 l.positive (omega arith) l.value) result here
