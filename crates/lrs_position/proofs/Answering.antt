use Rattle.std.proofs.Common.{ℕ, ◌≡◌, ◌-◌, ◌*◌, ◌^◌, ◌<◌, ◌≤◌, sym, ◌∙◌, ap, refl, subst, arith, ℤ, pos, negsuc, to_z, of_z, ◌+ℤ◌, unsigned_abs, Bool, true, false, cond, IsTrue, List, ◌∷◌, [], length, get_or, Option, Some, None, Result, Ok, Err}
use Rattle.std.specs.Int.{w128}
use Rattle.std.specs.Option.{ok_or}
use Rattle.std.specs.Result.{IsOkAnd, IfOk}
use Rattle.std.proofs.Math.Nat.{mul-le-mul_right, eq_of_mul-eq-mul_right}
use Rattle.std.proofs.lemmas.Nat.{mul-le}
use Rattle.std.proofs.lemmas.Int.{ints, to_z-of_z, to_z_pos}
use mir.Val.{SFits}
use lib.Signed.{lt_z}
use Rattle.std.proofs.lemmas.Result.{IfOk-weaker}
use Rattle.std.proofs.lemmas.Bool.{and_parts, or_parts, not-true, ltb-false, le-ltb}
use Rattle.lrs_measure.specs.Fraction.{Fraction, IsLowest, IsQuotient, IsInRange}
use Rattle.lrs_measure.specs.Lists.{is_nothing}
use Rattle.lrs_measure.specs.Texts.{Name}
use Rattle.lrs_element.specs.declared.marks.Mark.{Mark}
use Rattle.lrs_element.specs.declared.link.Ground.{Ground}
use Rattle.lrs_element.specs.Course.{is_too_long}
use Rattle.lrs_element.specs.Marks.{no_mark, first_mark, last_of, last_mark, IsOnLine}
use Rattle.lrs_element.specs.Line.{HasMeasure, IsReadable}
use Rattle.lrs_element.proofs.LineLemmas.{natural_quotient, KeepRules, KeepRules-from_none, last_mark-get_or, ends_at, measure_limit}
use Rattle.lrs_position.specs.declared.expression.Expr.{Expr}
use Rattle.lrs_position.specs.declared.expression.Expr.TheVariants.{Abs, Rel, Int}
use Rattle.lrs_position.specs.declared.location.PlaceFault.{PlaceFault}
use Rattle.lrs_position.specs.declared.location.PlaceFault.TheVariants.{NoRef, TooFine, OffRoute}
use Rattle.lrs_position.specs.declared.route.Referent.{Referent}
use Rattle.lrs_position.specs.declared.route.Route.{Route}
use Rattle.lrs_position.specs.Routes.{is_route}
use Rattle.lrs_position.specs.Locations.{Alignment, Locates, located, located_or_fault, lacks_referent, is_too_fine, within}
use Rattle.lrs_position.specs.Translations.{alignment_of, number_of, LocatesAt, IsAnswer, IsOnRoute}
use Rattle.lrs_position.proofs.Line.{Climb, Climb-from_follow, after_first, before_last}
use Rattle.lrs_position.proofs.Located.{IsSound, located-sound, located-some, Locates-same, Locates-scale, Locates-within}

-- ---- what a route keeps

filled : (course : List Ground) → is_nothing course ≡ false → 0 < length course
filled [] h = absurd (cc h)
filled (g ∷ rest) h = omega arith

KeepRules-from_route : (course : List Ground) (marks : List Mark) (refs : List Referent) → IsTrue (is_route course marks refs) → KeepRules (length course) marks
KeepRules-from_route course marks refs h = KeepRules-from_none (length course) marks (and_parts _ _ (and_parts _ _ h).0).1

len_limit : (course : List Ground) → is_too_long course ≡ false → length course ≤ 10_000_000_000
len_limit course h = ltb-false _ _ (or_parts _ _ h).1

last_measure : (len : ℕ) (marks : List Mark) → KeepRules len marks → (last_mark marks).measure ≤ 100_000_000_000
last_measure len marks h =
    let two = h.two in
    let is : last_mark marks ≡ get_or marks (length marks - 1) no_mark = last_mark-get_or marks (length marks - 1) no_mark (omega arith) in
    rw is (measure_limit len marks h (length marks - 1) no_mark (omega arith))

IsSound-from : (course : List Ground) (marks : List Mark) (refs : List Referent) → IsTrue (is_route course marks refs) → IsSound (record { course = course; marks = marks })
IsSound-from course marks refs h =
    let r = KeepRules-from_route course marks refs h in
    let c = and_parts _ _ (and_parts _ _ (and_parts _ _ h).0).0 in
    record {
      climb = Climb-from_follow (length course) None marks r.follow;
      end = ends_at (length course) marks r;
      positive = filled course (not-true _ c.0);
      longest = len_limit course (not-true _ c.1);
      highest = last_measure (length course) marks r;
    }

pub IsSound-from_route : (route : Route) → IsSound (alignment_of route)
IsSound-from_route route = IsSound-from route.course route.marks route.refs route.fits

-- ---- what locating answers

-- where an expression lacks nothing and is not too fine, the answer is what is located
answer_is : (a : Alignment) (chainage_on : Name → Option ℕ) (e : Expr) (r : Result Fraction PlaceFault) → lacks_referent chainage_on e ≡ false → is_too_fine e ≡ false → IsAnswer (ok_or (located a chainage_on e) OffRoute) r → IsAnswer (located_or_fault a chainage_on e) r
answer_is a chainage_on e r lacks fine h = rw (lacks, fine) h

-- what locates is the value of what is located
same_quotient : (x : Fraction) (n : ℕ) (y : ℕ × ℕ) → x.num ≡ pos n → n * y.1 ≡ y.0 * x.den → IsQuotient x (pos y.0) y.1
same_quotient x n y e h = rw e (ap pos h)

pub answer_ok : (a : Alignment) (chainage_on : Name → Option ℕ) (e : Expr) (x : Fraction) → IsSound a → 0 < (number_of e).den → lacks_referent chainage_on e ≡ false → is_too_fine e ≡ false → LocatesAt a chainage_on e x → IsLowest x → IsAnswer (located_or_fault a chainage_on e) (Ok x)
answer_ok a chainage_on e x s dp lacks fine h low = answer_is a chainage_on e (Ok x) lacks fine (by_case (located a chainage_on e) refl)
  where
    by_case : (o : Option (ℕ × ℕ)) → located a chainage_on e ≡ o → IsAnswer (ok_or o OffRoute) (Ok x)
    by_case None k = absurd (cc (located-some a chainage_on e (h.0, x.den) s h.2, k))
    by_case (Some y) k = (same_quotient x h.0 y h.1 (Locates-same a chainage_on e (h.0, x.den) y s dp h.2 (located-sound a chainage_on e y s dp k)), low)

pub answer_off : (a : Alignment) (chainage_on : Name → Option ℕ) (e : Expr) → IsSound a → 0 < (number_of e).den → lacks_referent chainage_on e ≡ false → is_too_fine e ≡ false → ((x : ℕ × ℕ) → Locates a chainage_on e x → ⊥) → IsAnswer (located_or_fault a chainage_on e) (Err OffRoute)
answer_off a chainage_on e s dp lacks fine h = answer_is a chainage_on e (Err OffRoute) lacks fine (by_case (located a chainage_on e) refl)
  where
    by_case : (o : Option (ℕ × ℕ)) → located a chainage_on e ≡ o → IsAnswer (ok_or o OffRoute) (Err OffRoute)
    by_case None k = refl
    by_case (Some y) k = h y (located-sound a chainage_on e y s dp k)

-- the mark at the end of the list stands at the length
pub last_at_end : (route : Route) (marks : List Mark) (z : Mark) → marks ≡ route.marks → 1 ≤ length marks → (get_or marks (length marks - 1) z).chainage ≡ length route.course
last_at_end route marks z same l =
    let is : last_mark marks ≡ get_or marks (length marks - 1) z = last_mark-get_or marks (length marks - 1) z (omega arith) in
    ap (λ (m : Mark). m.chainage) (sym is) ∙ ap (λ (ms : List Mark). (last_mark ms).chainage) same ∙ (IsSound-from_route route).end

-- ---- what each method answers

pub measure_ok : (a : Alignment) (chainage_on : Name → Option ℕ) (m x : Fraction) → IsSound a → IsLowest m → m.den ≤ 10 ^ 16 → HasMeasure a.marks x m → IsLowest x → IsAnswer (located_or_fault a chainage_on (Abs m)) (Ok x)
measure_ok a chainage_on m x s lm fine h low = answer_ok a chainage_on (Abs m) x s lm.positive refl (le-ltb _ _ fine) (h.along, h.chainage, (h.reading, h.measure, low.positive, h.line)) low

readable_from : (marks : List Mark) (m : Fraction) (n x d : ℕ) → Climb marks → 0 < d → m.den ≤ 10 ^ 16 → m.num ≡ pos n → IsOnLine marks (x, d) (n, m.den) → IsReadable (first_mark marks).measure (last_mark marks).measure m
readable_from [] m n x d c dp fine e h = absurd h
readable_from (p ∷ rest) m n x d c dp fine e h =
    let f : p.measure * m.den ≤ n = (after_first p rest x d n m.den c dp h).1 in
    let t : n ≤ (last_of p rest).measure * m.den = (before_last p rest x d n m.den c dp h).1 in
    record { fine = fine; from = rw e (omega (arith, ints)); to = rw e (omega (arith, ints)) }

pub measure_off : (a : Alignment) (chainage_on : Name → Option ℕ) (m : Fraction) → IsSound a → IsLowest m → m.den ≤ 10 ^ 16 → (IsReadable (first_mark a.marks).measure (last_mark a.marks).measure m → ⊥) → IsAnswer (located_or_fault a chainage_on (Abs m)) (Err OffRoute)
measure_off a chainage_on m s lm fine h = answer_off a chainage_on (Abs m) s lm.positive refl (le-ltb _ _ fine) (λ x l. h (readable_from a.marks m l.0 x.0 x.1 s.climb l.2 fine l.1 l.3))

pub distance_is : (a : Alignment) (chainage_on : Name → Option ℕ) (name : Name) (t : Fraction) (at : ℕ) (r : Result Fraction PlaceFault) → chainage_on name ≡ Some at → t.den ≤ 10 ^ 16 → IsAnswer (ok_or (within (length a.course) (pos (at * t.den) +ℤ t.num) t.den) OffRoute) r → IsAnswer (located_or_fault a chainage_on (Rel name t)) r
distance_is a chainage_on name t at r e fine h = rw (e, le-ltb _ _ fine) h

pub proportion_ok : (a : Alignment) (chainage_on : Name → Option ℕ) (p x : Fraction) (n : ℕ) → IsSound a → IsLowest p → p.den ≤ 10 ^ 21 → p.num ≡ pos n → n ≤ p.den → IsQuotient x (pos (n * length a.course)) p.den → IsLowest x → IsAnswer (located_or_fault a chainage_on (Int p)) (Ok x)
proportion_ok a chainage_on p x n s lp fine e l q low =
    let k = natural_quotient x (n * length a.course) p.den lp.positive q in
    answer_ok a chainage_on (Int p) x s lp.positive refl (le-ltb _ _ fine) (unsigned_abs x.num, k.0, (n, e, l, low.positive, k.1)) low

pub proportion_in_range : (len n d : ℕ) → 0 < d → len ≤ 10_000_000_000 → d ≤ 10 ^ 21 → n ≤ d → IsInRange (pos (n * len)) d
proportion_in_range len n d p l fine h =
    let m : n * len ≤ 1_000_000_000_000_000_000_000 * 10_000_000_000 = mul-le n len 1_000_000_000_000_000_000_000 10_000_000_000 (omega arith) l in
    record { positive = p; denominator = omega arith; numerator = omega arith }

-- ---- what an answer says

pub found_value : (b c : Bool) (o : Option (ℕ × ℕ)) (x : Fraction) → IsAnswer (cond b (Err NoRef) (cond c (Err TooFine) (ok_or o OffRoute))) (Ok x) → (y : ℕ × ℕ) × (o ≡ Some y) × IsQuotient x (pos y.0) y.1 × IsLowest x
found_value true c o x h = absurd (cc h)
found_value false true o x h = absurd (cc h)
found_value false false None x h = absurd (cc h)
found_value false false (Some y) x h = (y, refl, h.0, h.1)

pub place_from : (a : Alignment) (chainage_on : Name → Option ℕ) (e : Expr) (r : Result Fraction PlaceFault) → IsSound a → 0 < (number_of e).den → IsAnswer (located_or_fault a chainage_on e) r → IfOk r (λ x. LocatesAt a chainage_on e x × IsLowest x)
place_from a chainage_on e (Err f) s dp h = tt
place_from a chainage_on e (Ok x) s dp h =
    let f = found_value (lacks_referent chainage_on e) (is_too_fine e) (located a chainage_on e) x h in
    let l = located-sound a chainage_on e f.0 s dp f.1 in
    let yp = (Locates-within a chainage_on e f.0 s dp l).0 in
    let k = natural_quotient x f.0.0 f.0.1 yp f.2 in
    ((unsigned_abs x.num, k.0, Locates-scale a chainage_on e f.0 (unsigned_abs x.num, x.den) s f.3.positive l (sym k.1)), f.3)

pub lacks_not : (a : Alignment) (chainage_on : Name → Option ℕ) (e : Expr) (x : ℕ × ℕ) → Locates a chainage_on e x → lacks_referent chainage_on e ≡ false
lacks_not a chainage_on (Abs m) x h = refl
lacks_not a chainage_on (Rel name t) x h = rw h.1 refl
lacks_not a chainage_on (Int p) x h = refl

-- a quotient of y is one of x where they have one value
pub quotient_of_same : (q : Fraction) (x y : ℕ × ℕ) → 0 < y.1 → IsQuotient q (pos y.0) y.1 → x.0 * y.1 ≡ y.0 * x.1 → IsQuotient q (pos x.0) x.1
quotient_of_same q x y p h e =
    let k = natural_quotient q y.0 y.1 p h in
    let n : ℕ = unsigned_abs q.num in
    let a : n * y.1 * x.1 ≡ y.0 * q.den * x.1 = ap (λ (i : ℕ). i * x.1) k.1 in
    let b : x.0 * y.1 * q.den ≡ y.0 * x.1 * q.den = ap (λ (i : ℕ). i * q.den) e in
    let c : n * x.1 ≡ x.0 * q.den = eq_of_mul-eq-mul_right y.1 p _ _ (omega arith) in
    rw k.0 (ap pos c)

pub found_from : (a : Alignment) (chainage_on : Name → Option ℕ) (e : Expr) (r : Result Fraction PlaceFault) (x : ℕ × ℕ) → IsSound a → 0 < (number_of e).den → IsAnswer (located_or_fault a chainage_on e) r → Locates a chainage_on e x → is_too_fine e ≡ false → IsOkAnd r (λ q. IsQuotient q (pos x.0) x.1)
found_from a chainage_on e r x s dp h l fine = by_case (located a chainage_on e) refl r (rw (lacks_not a chainage_on e x l, fine) at h)
  where
    by_case : (o : Option (ℕ × ℕ)) → located a chainage_on e ≡ o → (r : Result Fraction PlaceFault) → IsAnswer (ok_or o OffRoute) r → IsOkAnd r (λ q. IsQuotient q (pos x.0) x.1)
    by_case None k r j = absurd (cc (located-some a chainage_on e x s l, k))
    by_case (Some y) k (Err f) j = absurd j
    by_case (Some y) k (Ok q) j =
        let m = located-sound a chainage_on e y s dp k in
        quotient_of_same q x y (Locates-within a chainage_on e y s dp m).0 j.0 (Locates-same a chainage_on e x y s dp l m)

pub place_of : (a : Alignment) (chainage_on : Name → Option ℕ) (e : Expr) (r : Result Fraction PlaceFault) → IsSound a → 0 < (number_of e).den → IsAnswer (located_or_fault a chainage_on e) r → IfOk r (λ x. LocatesAt a chainage_on e x)
place_of a chainage_on e r s dp h = IfOk-weaker r _ _ (λ x p. p.0) (place_from a chainage_on e r s dp h)

-- ---- what the code computes

-- the sum of a place and a distance does not overflow
pub distance_given : (at den : ℕ) (num : ℤ) → at < 2 ^ 64 → den ≤ 10 ^ 16 → unsigned_abs num ≤ 100_000_000_000_000_000_000_000_000_000_000_000_000
    → to_z w128 (of_z w128 (to_z w128 (at * den) +ℤ to_z w128 (of_z w128 num))) ≡ pos (at * den) +ℤ num
distance_given at den num a d n =
    let b : at * den ≤ 18_446_744_073_709_551_616 * 10_000_000_000_000_000 = mul-le at den 18_446_744_073_709_551_616 10_000_000_000_000_000 (omega arith) (omega arith) in
    omega (arith, ints)

pub distance_answer : (len len' at den den' : ℕ) (num z : ℤ) (r : Result Fraction PlaceFault) → len' ≡ len → den' ≡ den → z ≡ pos (at * den) +ℤ num → IsAnswer (ok_or (within len' z den') OffRoute) r → IsAnswer (ok_or (within len (pos (at * den) +ℤ num) den) OffRoute) r
distance_answer len len' at den den' num z r el ed ez h =
    let P : ℕ → ℤ → ℕ → Type 0 = λ l y d. IsAnswer (ok_or (within l y d) OffRoute) r in
    subst (λ (d : ℕ). P len (pos (at * den) +ℤ num) d) ed (subst (λ (y : ℤ). P len y den') ez (subst (λ (l : ℕ). P l z den') el h))

-- the numerator that the code reads, where it is not negative
pub natural_read : (num z : ℤ) → z ≡ num → SFits w128 z → lt_z (to_z w128 (of_z w128 z)) (pos 0) ≡ false → num ≡ pos (unsigned_abs (to_z w128 (of_z w128 z)))
natural_read num z e f h = sym e ∙ non_negative z (rw (to_z-of_z w128 z f) at h) ∙ ap (λ (y : ℤ). pos (unsigned_abs y)) (sym (to_z-of_z w128 z f))
  where
    non_negative : (z : ℤ) → lt_z z (pos 0) ≡ false → z ≡ pos (unsigned_abs z)
    non_negative (pos n) h = refl
    non_negative (negsuc n) h = absurd (cc h)

-- the product of a proportion's numerator and a length does not overflow
pub product_given : (n len d : ℕ) → len ≤ 10_000_000_000 → d ≤ 10 ^ 21 → n ≤ d → to_z w128 (n * len) ≡ pos (n * len)
product_given n len d l fine h =
    let m : n * len ≤ 1_000_000_000_000_000_000_000 * 10_000_000_000 = mul-le n len 1_000_000_000_000_000_000_000 10_000_000_000 (omega arith) l in
    to_z_pos w128 (n * len) (omega arith)

-- what `new` is given for a proportion is in range
pub product_in_range : (n len d : ℕ) → 0 < d → len ≤ 10_000_000_000 → d ≤ 10 ^ 21 → n ≤ d → IsInRange (to_z w128 (n * len)) d
product_in_range n len d p l fine h = rw (product_given n len d l fine h) (proportion_in_range len n d p l fine h)

-- what `new` answers is the chainage of the proportion
pub product_ok : (a : Alignment) (chainage_on : Name → Option ℕ) (p x : Fraction) (n len d : ℕ) → IsSound a → IsLowest p → len ≡ length a.course → d ≡ p.den → p.den ≤ 10 ^ 21 → p.num ≡ pos n → n ≤ d → IsQuotient x (to_z w128 (n * len)) d → IsLowest x → IsAnswer (located_or_fault a chainage_on (Int p)) (Ok x)
product_ok a chainage_on p x n len d s lp el ed fine e h q low =
    let longest = s.longest in
    let r : IsQuotient x (pos (n * len)) d = rw (product_given n len d (omega (arith, el)) (omega arith) h) at q in
    let P : ℕ → ℕ → Type 0 = λ l b. IsQuotient x (pos (n * l)) b in
    proportion_ok a chainage_on p x n s lp fine e (omega arith) (subst (λ (b : ℕ). P (length a.course) b) ed (subst (λ (l : ℕ). P l d) el r)) low

-- what is located is on the route
pub on_route_of : (a : Alignment) (chainage_on : Name → Option ℕ) (e : Expr) (r : Result Fraction PlaceFault) → IsSound a → 0 < (number_of e).den → IsAnswer (located_or_fault a chainage_on e) r → IfOk r (λ x. IsOnRoute (length a.course) x)
on_route_of a chainage_on e r s dp h = IfOk-weaker r _ _ (λ x p. within_route x p.0) (place_from a chainage_on e r s dp h)
  where
    within_route : (x : Fraction) → LocatesAt a chainage_on e x → IsOnRoute (length a.course) x
    within_route x l =
        let w : l.0 ≤ length a.course * x.den = (Locates-within a chainage_on e (l.0, x.den) s dp l.2).1 in
        let b : length a.course * x.den ≤ 10_000_000_000 * x.den = mul-le-mul_right x.den s.longest in
        record { from = rw l.1 (omega (arith, ints)); to = rw l.1 (omega (arith, ints)); limit = rw l.1 (omega (arith, ints)) }
