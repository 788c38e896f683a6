use Rattle.std.proofs.Common.{ℕ, ◌≡◌, ◌*◌, ◌^◌, ◌<◌, ◌≤◌, sym, ◌∙◌, ap, refl, subst, arith, ℤ, pos, negsuc, ◌+ℤ◌, ◌*ℤ◌, unsigned_abs, Bool, true, false, cond, nat_le, IsTrue, length, Option, Some, None, Result, Ok, Err}
use Rattle.std.specs.Int.{IsGcd}
use Rattle.std.specs.Option.{ok_or, MatchOption, option_and_then}
use Rattle.std.specs.Result.{IsOkAnd, MatchResult}
use Rattle.std.proofs.Math.Nat.{mul-pos, le_trans, le_of_dvd, dvd-mul_left, eq_of_mul-eq-mul_right}
use Rattle.std.proofs.lemmas.Nat.{mul-le}
use Rattle.std.proofs.lemmas.Nat.Gcd.{IsGcd-swap}
use Rattle.std.proofs.lemmas.Option.{cond_some}
use Rattle.std.proofs.lemmas.Bool.{and_parts, eqb-true, leb-true, le-leb, le-ltb}
use Rattle.lrs_measure.specs.Fraction.{Fraction, IsLowest, IsQuotient}
use Rattle.lrs_measure.specs.Texts.{Name}
use Rattle.lrs_measure.proofs.Lowest.{same_fraction, divides_other, den_divides}
use Rattle.lrs_element.proofs.LineLemmas.{natural_quotient}
use Rattle.lrs_element.specs.Marks.{last_mark, IsOnLine}
use Rattle.lrs_position.specs.declared.expression.Expr.{Expr}
use Rattle.lrs_position.specs.declared.expression.Expr.TheVariants.{Abs, Rel, Int}
use Rattle.lrs_position.specs.declared.expression.Target.{Target}
use Rattle.lrs_position.specs.declared.location.PlaceFault.{PlaceFault}
use Rattle.lrs_position.specs.declared.location.PlaceFault.TheVariants.{NoRef, OffRoute}
use Rattle.lrs_position.specs.Expressions.{is_entered}
use Rattle.lrs_position.specs.Locations.{Alignment, Locates, located, is_too_fine, at_measure, at_proportion, within}
use Rattle.lrs_position.specs.Translations.{number_of, target_of, misses_referent, LocatesAt, IsAnswer, chainage_fault, Expresses, IsExpression, Translates, RoundTrip}
use Rattle.lrs_position.proofs.Line.{den_on_line, chainage_at-den}
use Rattle.lrs_position.proofs.Located.{IsSound, located-sound, located-some, Locates-same, Locates-scale, Locates-within, same_expression, distance_divides, located_within}
use Rattle.lrs_position.proofs.Answering.{lacks_not, quotient_of_same}

-- ---- the denominators on the way

-- the coarsest denominators: of a chainage that an entered expression locates
abbrev coarse : Expr → ℕ
coarse (Abs m) = 100_000_000_000
coarse (Rel name t) = 1
coarse (Int p) = 1_000_000

-- what is entered is not too fine
entered_fine : (e : Expr) → IsTrue (is_entered e) → is_too_fine e ≡ false
entered_fine (Abs m) h = let d : m.den ≡ 1 = eqb-true _ _ (and_parts _ _ (and_parts _ _ h).0).0 in le-ltb _ _ (omega arith)
entered_fine (Rel name t) h = let d : t.den ≡ 1 = eqb-true _ _ (and_parts _ _ h).0 in le-ltb _ _ (omega arith)
entered_fine (Int p) h = let d : p.den ≤ 1_000_000 = leb-true _ _ (and_parts _ _ (and_parts _ _ h).0).0 in le-ltb _ _ (omega arith)

measure_den : (a : Alignment) (num : ℤ) (den : ℕ) (y : ℕ × ℕ) → IsSound a → den ≡ 1 → at_measure a.marks num den ≡ Some y → y.1 ≤ 100_000_000_000
measure_den a (pos n) den y s d h = let l = chainage_at-den a.marks n den y s.climb h in let m : den * (last_mark a.marks).measure ≤ 1 * 100_000_000_000 = mul-le den (last_mark a.marks).measure 1 100_000_000_000 (omega arith) s.highest in omega arith
measure_den a (negsuc n) den y s d h = absurd (cc h)

distance_den : (len den : ℕ) (t : ℤ) (o : Option ℕ) (y : ℕ × ℕ) → den ≡ 1 → option_and_then (λ at. within len (pos (at * den) +ℤ t) den) o ≡ Some y → y.1 ≤ 1
distance_den len den t None y d h = absurd (cc h)
distance_den len den t (Some at) y d h = let w = located_within len (pos (at * den) +ℤ t) den y h in omega (arith, w.1)

proportion_den : (len den : ℕ) (num : ℤ) (y : ℕ × ℕ) → den ≤ 1_000_000 → at_proportion len num den ≡ Some y → y.1 ≤ 1_000_000
proportion_den len den (pos n) y d h = let c = cond_some (nat_le n den) (n * len, den) y h in let e : den ≡ y.1 = ap (λ (p : ℕ × ℕ). p.1) c.1 in omega arith
proportion_den len den (negsuc n) y d h = absurd (cc h)

located_den : (a : Alignment) (chainage_on : Name → Option ℕ) (e : Expr) (y : ℕ × ℕ) → IsSound a → IsTrue (is_entered e) → located a chainage_on e ≡ Some y → y.1 ≤ coarse e
located_den a chainage_on (Abs m) y s h l = measure_den a m.num m.den y s (eqb-true _ _ (and_parts _ _ (and_parts _ _ h).0).0) l
located_den a chainage_on (Rel name t) y s h l = distance_den (length a.course) t.den t.num (chainage_on name) y (eqb-true _ _ (and_parts _ _ h).0) l
located_den a chainage_on (Int p) y s h l = proportion_den (length a.course) p.den p.num y (leb-true _ _ (and_parts _ _ (and_parts _ _ h).0).0) l

measure_limit : (a : Alignment) (m : Fraction) (n x d : ℕ) → IsSound a → IsLowest m → m.num ≡ pos n → 0 < d → IsOnLine a.marks (x, d) (n, m.den) → m.den ≤ length a.course * d
measure_limit a m n x d s l e p h =
    let g : IsGcd n m.den 1 = subst (λ (z : ℤ). IsGcd (unsigned_abs z) m.den 1) e l.coprime in
    subst (λ (k : ℕ). m.den ≤ k * d) s.end (den_on_line a.marks x d n m.den s.climb p g h)

distance_limit : (t : Fraction) (at x d : ℕ) → IsLowest t → 0 < d → pos (x * t.den) ≡ pos (at * t.den * d) +ℤ (t.num *ℤ pos d) → t.den ≤ d
distance_limit t at x d l p e = le_of_dvd p (divides_other t.den (unsigned_abs t.num) d (IsGcd-swap _ _ 1 l.coprime) (distance_divides at t.den x d t.num e))

proportion_limit : (p : Fraction) (n len x d : ℕ) → IsLowest p → 0 < len → p.num ≡ pos n → 0 < d → x * p.den ≡ n * len * d → p.den ≤ len * d
proportion_limit p n len x d l lp e dp h =
    let g : IsGcd n p.den 1 = subst (λ (z : ℤ). IsGcd (unsigned_abs z) p.den 1) e l.coprime in
    let m : n * (len * d) ≡ x * p.den = sym (h ∙ omega arith) in
    le_of_dvd (mul-pos lp dp) (divides_other p.den n (len * d) (IsGcd-swap n p.den 1 g) (rw m (dvd-mul_left p.den x)))

times_limit : (len d c : ℕ) → len ≤ 10_000_000_000 → d ≤ c → len * d ≤ 10_000_000_000 * c
times_limit len d c l h = mul-le len d 10_000_000_000 c l h

-- another expression of what an entered one locates is not too fine
fine_there : (a : Alignment) (chainage_on : Name → Option ℕ) (e f : Expr) (x : ℕ × ℕ) → IsSound a → IsTrue (is_entered e) → IsLowest (number_of e) → IsLowest (number_of f) → x.1 ≤ coarse e → Locates a chainage_on e x → Locates a chainage_on f x → is_too_fine f ≡ false
fine_there a chainage_on (Abs m) (Abs n) x s h le lf c l k = subst (λ (e : Expr). is_too_fine e ≡ false) (same_expression a chainage_on (Abs m) (Abs n) x s le lf refl l k) (entered_fine (Abs m) h)
fine_there a chainage_on (Rel name t) (Abs n) x s h le lf c l k = let m = measure_limit a n k.0 x.0 x.1 s lf k.1 k.2 k.3 in let b = times_limit (length a.course) x.1 1 s.longest c in le-ltb _ _ (omega arith)
fine_there a chainage_on (Int p) (Abs n) x s h le lf c l k = let m = measure_limit a n k.0 x.0 x.1 s lf k.1 k.2 k.3 in let b = times_limit (length a.course) x.1 1_000_000 s.longest c in le-ltb _ _ (omega arith)
fine_there a chainage_on (Abs m) (Rel other u) x s h le lf c l k = let d = distance_limit u k.0 x.0 x.1 lf k.2 k.3 in le-ltb _ _ (omega arith)
fine_there a chainage_on (Rel name t) (Rel other u) x s h le lf c l k = let d = distance_limit u k.0 x.0 x.1 lf k.2 k.3 in le-ltb _ _ (omega arith)
fine_there a chainage_on (Int p) (Rel other u) x s h le lf c l k = let d = distance_limit u k.0 x.0 x.1 lf k.2 k.3 in le-ltb _ _ (omega arith)
fine_there a chainage_on (Abs m) (Int q) x s h le lf c l k = let d = proportion_limit q k.0 (length a.course) x.0 x.1 lf s.positive k.1 k.3 k.4 in let b = times_limit (length a.course) x.1 100_000_000_000 s.longest c in le-ltb _ _ (omega arith)
fine_there a chainage_on (Rel name t) (Int q) x s h le lf c l k = let d = proportion_limit q k.0 (length a.course) x.0 x.1 lf s.positive k.1 k.3 k.4 in let b = times_limit (length a.course) x.1 1 s.longest c in le-ltb _ _ (omega arith)
fine_there a chainage_on (Int p) (Int q) x s h le lf c l k = let d = proportion_limit q k.0 (length a.course) x.0 x.1 lf s.positive k.1 k.3 k.4 in let b = times_limit (length a.course) x.1 1_000_000 s.longest c in le-ltb _ _ (omega arith)

-- ---- one translation

-- the chainage that a translation goes by
record Leg (a : Alignment) (chainage_on : Name → Option ℕ) (e : Expr) (target : Target) (answer : Result Expr PlaceFault) (x : ℕ × ℕ) : Type 0 where
  y : ℕ × ℕ
  found : located a chainage_on e ≡ Some y
  place : Fraction
  lowest : IsLowest place
  from : IsQuotient place (pos y.0) y.1
  value : IsQuotient place (pos x.0) x.1
  expressed : IsExpression a chainage_on place target answer

leg_from : (a : Alignment) (chainage_on : Name → Option ℕ) (e : Expr) (target : Target) (answer : Result Expr PlaceFault) (x : ℕ × ℕ) → IsSound a → 0 < (number_of e).den → Locates a chainage_on e x
    → (o : Option (ℕ × ℕ)) → located a chainage_on e ≡ o → (place : Result Fraction PlaceFault) → IsAnswer (ok_or o OffRoute) place → MatchResult place (λ q. IsExpression a chainage_on q target answer) (λ fault. answer ≡ Err fault) → Leg a chainage_on e target answer x
leg_from a chainage_on e target answer x s dp l None k place j m = absurd (cc (located-some a chainage_on e x s l, k))
leg_from a chainage_on e target answer x s dp l (Some y) k (Err f) j m = absurd j
leg_from a chainage_on e target answer x s dp l (Some y) k (Ok q) j m =
    let n = located-sound a chainage_on e y s dp k in
    record { y = y; found = k; place = q; lowest = j.1; from = j.0; value = quotient_of_same q x y (Locates-within a chainage_on e y s dp n).0 j.0 (Locates-same a chainage_on e x y s dp l n); expressed = m }

leg : (a : Alignment) (chainage_on : Name → Option ℕ) (e : Expr) (target : Target) (answer : Result Expr PlaceFault) (x : ℕ × ℕ) → IsSound a → 0 < (number_of e).den → Locates a chainage_on e x → is_too_fine e ≡ false → Translates a chainage_on e target answer → Leg a chainage_on e target answer x
leg a chainage_on e target answer x s dp l fine t =
    leg_from a chainage_on e target answer x s dp l (located a chainage_on e) refl t.0 (rw (lacks_not a chainage_on e x l, fine) at t.1) t.2

-- an expression is answered where nothing is wrong
expressed_from : (a : Alignment) (chainage_on : Name → Option ℕ) (q : Fraction) (target : Target) (answer : Result Expr PlaceFault) → misses_referent chainage_on target ≡ false → chainage_fault (length a.course) q ≡ None → IsExpression a chainage_on q target answer → (e : Expr) × (answer ≡ Ok e) × Expresses a chainage_on q target e
expressed_from a chainage_on q target answer m f h = by_case (misses_referent chainage_on target) (chainage_fault (length a.course) q) m f answer h
  where
    by_case : (b : Bool) (o : Option PlaceFault) → b ≡ false → o ≡ None → (r : Result Expr PlaceFault) → MatchOption (cond b (Some NoRef) o) (IsOkAnd r (Expresses a chainage_on q target)) (λ fault. r ≡ Err fault) → (e : Expr) × (r ≡ Ok e) × Expresses a chainage_on q target e
    by_case true o b p r j = absurd (cc b)
    by_case false (Some y) b p r j = absurd (cc p)
    by_case false None b p (Err y) j = absurd j
    by_case false None b p (Ok e) j = (e, refl, j)

-- a chainage on the route that is not too fine has no fault
no_fault : (len : ℕ) (q : Fraction) (n : ℕ) → q.num ≡ pos n → n ≤ len * q.den → q.den ≤ 10 ^ 16 → chainage_fault len q ≡ None
no_fault len q n e l f = rw (le-ltb _ _ f, e, le-leb _ _ l) refl

misses_not : (a : Alignment) (chainage_on : Name → Option ℕ) (e : Expr) (x : ℕ × ℕ) → Locates a chainage_on e x → misses_referent chainage_on (target_of e) ≡ false
misses_not a chainage_on (Abs m) x h = refl
misses_not a chainage_on (Rel name t) x h = rw h.1 refl
misses_not a chainage_on (Int p) x h = refl

coarse_fine : (e : Expr) (d : ℕ) → d ≤ coarse e → d ≤ 10 ^ 16
coarse_fine (Abs m) d h = omega arith
coarse_fine (Rel name t) d h = omega arith
coarse_fine (Int p) d h = omega arith

-- two fractions in lowest terms with the value x / d are one
pub same_place : (p q : Fraction) (x d : ℕ) → 0 < d → IsLowest p → IsLowest q → IsQuotient p (pos x) d → IsQuotient q (pos x) d → p ≡ q
same_place p q x d dp lp lq h k =
    let m = natural_quotient p x d dp h in
    let n = natural_quotient q x d dp k in
    let a : unsigned_abs p.num * d * q.den ≡ x * p.den * q.den = ap (λ (i : ℕ). i * q.den) m.1 in
    let b : unsigned_abs q.num * d * p.den ≡ x * q.den * p.den = ap (λ (i : ℕ). i * p.den) n.1 in
    let v : unsigned_abs p.num * q.den ≡ unsigned_abs q.num * p.den = eq_of_mul-eq-mul_right d dp _ _ (omega arith) in
    same_fraction p q lp lq (rw (m.0, n.0) (ap pos v))

-- ---- the round trip

-- what is known after the way there
record There (a : Alignment) (chainage_on : Name → Option ℕ) (e : Expr) (target : Target) (answer : Result Expr PlaceFault) (x : ℕ × ℕ) : Type 0 where
  place : Fraction
  along : ℕ
  num_is : place.num ≡ pos along
  lowest : IsLowest place
  value : IsQuotient place (pos x.0) x.1
  here : Locates a chainage_on e (along, place.den)
  fault : chainage_fault (length a.course) place ≡ None
  small : place.den ≤ coarse e
  there : Expr
  answered : answer ≡ Ok there
  expressed : Expresses a chainage_on place target there

way_there : (a : Alignment) (chainage_on : Name → Option ℕ) (e : Expr) (target : Target) (answer : Result Expr PlaceFault) (x : ℕ × ℕ) → IsSound a → IsLowest (number_of e) → IsTrue (is_entered e) → Locates a chainage_on e x → misses_referent chainage_on target ≡ false → Translates a chainage_on e target answer → There a chainage_on e target answer x
way_there a chainage_on e target answer x s le h l m t =
    let g = leg a chainage_on e target answer x s le.positive l (entered_fine e h) t in
    let w = Locates-within a chainage_on e x s le.positive l in
    let k = natural_quotient g.place x.0 x.1 w.0 g.value in
    let here : Locates a chainage_on e (unsigned_abs g.place.num, g.place.den) = Locates-scale a chainage_on e x (unsigned_abs g.place.num, g.place.den) s g.lowest.positive l (sym k.1) in
    let y_in = Locates-within a chainage_on e g.y s le.positive (located-sound a chainage_on e g.y s le.positive g.found) in
    let small : g.place.den ≤ coarse e = le_trans (le_of_dvd y_in.0 (den_divides g.place (pos g.y.0) g.y.1 g.lowest g.from)) (located_den a chainage_on e g.y s h g.found) in
    let fault : chainage_fault (length a.course) g.place ≡ None = no_fault (length a.course) g.place (unsigned_abs g.place.num) k.0 (Locates-within a chainage_on e (unsigned_abs g.place.num, g.place.den) s le.positive here).1 (coarse_fine e g.place.den small) in
    let f = expressed_from a chainage_on g.place target answer m fault g.expressed in
    record { place = g.place; along = unsigned_abs g.place.num; num_is = k.0; lowest = g.lowest; value = g.value; here = here; fault = fault; small = small; there = f.0; answered = f.1; expressed = f.2 }

-- what is located at a chainage's value is located at the other way to write it
located_there : (a : Alignment) (chainage_on : Name → Option ℕ) (q : Fraction) (f : Expr) (n : ℕ) (l : LocatesAt a chainage_on f q) → q.num ≡ pos n → Locates a chainage_on f (n, q.den)
located_there a chainage_on q f n l e =
    let same : l.0 ≡ n = ap unsigned_abs (sym l.1 ∙ e) in
    subst (λ (k : ℕ). Locates a chainage_on f (k, q.den)) same l.2

way_back : (a : Alignment) (chainage_on : Name → Option ℕ) (e : Expr) (target : Target) (answer back : Result Expr PlaceFault) (x : ℕ × ℕ) → IsSound a → IsLowest (number_of e) → IsTrue (is_entered e) → Locates a chainage_on e x → (w : There a chainage_on e target answer x) → Translates a chainage_on w.there (target_of e) back → back ≡ Ok e
way_back a chainage_on e target answer back x s le h l w t =
    let lf = w.expressed.lowest in
    let at_there : Locates a chainage_on w.there (w.along, w.place.den) = located_there a chainage_on w.place w.there w.along w.expressed.located w.num_is in
    let fine : is_too_fine w.there ≡ false = fine_there a chainage_on e w.there (w.along, w.place.den) s h le lf w.small w.here at_there in
    let g = leg a chainage_on w.there (target_of e) back (w.along, w.place.den) s lf.positive at_there fine t in
    let own : IsQuotient w.place (pos w.along) w.place.den = rw w.num_is refl in
    let place : g.place ≡ w.place = same_place g.place w.place w.along w.place.den w.lowest.positive g.lowest w.lowest g.value own in
    let expressed : IsExpression a chainage_on w.place (target_of e) back = subst (λ (q : Fraction). IsExpression a chainage_on q (target_of e) back) place g.expressed in
    let f = expressed_from a chainage_on w.place (target_of e) back (misses_not a chainage_on e x l) w.fault expressed in
    let again : Locates a chainage_on f.0 (w.along, w.place.den) = located_there a chainage_on w.place f.0 w.along f.2.located w.num_is in
    f.1 ∙ ap Ok (same_expression a chainage_on f.0 e (w.along, w.place.den) s f.2.lowest le f.2.method again w.here)

pub RoundTrip-from_translates : (a : Alignment) (chainage_on : Name → Option ℕ) (e : Expr) (target : Target) (answer : Result Expr PlaceFault) → IsSound a → IsLowest (number_of e) → Translates a chainage_on e target answer → RoundTrip a chainage_on e target answer
RoundTrip-from_translates a chainage_on e target answer s le t = λ h x l m.
    let w = way_there a chainage_on e target answer x s le h l m t in
    let v = natural_quotient w.place x.0 x.1 (Locates-within a chainage_on e x s le.positive l).0 w.value in
    let same : w.along ≡ unsigned_abs w.place.num = ap unsigned_abs (sym w.num_is) in
    let scale : w.along * x.1 ≡ x.0 * w.place.den = ap (λ (k : ℕ). k * x.1) same ∙ v.1 in
    let there : Locates a chainage_on w.there x = Locates-scale a chainage_on w.there (w.along, w.place.den) x s (Locates-within a chainage_on e x s le.positive l).0 (located_there a chainage_on w.place w.there w.along w.expressed.located w.num_is) scale in
    rw w.answered (there, λ back b. way_back a chainage_on e target answer back x s le h l w b)
