-- What is read off the marks at a chainage is the measure that its definition names.
use Rattle.std.proofs.Common.{◌≡◌, ℕ, zero, suc, ◌+◌, ◌-◌, ◌*◌, ◌/◌, ◌%◌, ◌<◌, ◌≤◌, Bool, true, false, cond, nat_le, nat_eq, inl, inr, List, [], ◌∷◌, length, ℤ, pos, Option, Some, None, refl, sym, ap, subst, ◌∙◌, arith, eq-eqb}
use Rattle.std.specs.Prelude.{◌↔◌, IfSome, IsSome, is_some, unsigned_abs}
use Rattle.std.specs.Int.{◌∣◌}
use Rattle.std.specs.Option.{option_map}
use Rattle.std.proofs.Math.Nat.{dvd-mul_left, eq_of_mul-eq-mul_right, div-mul_cancel, le_trans, mul-div-mul_right, mul-le-mul_right}
use Rattle.std.proofs.lemmas.Bool.{both_ways, false≢true, eqb-true, leb-true, le-leb}
use Rattle.std.proofs.lemmas.Int.{ints}
use Rattle.std.proofs.lemmas.Nat.Gcd.{dvd_of_mod-eq-zero, mod-eq-zero_of_dvd, le_of_dvd}
use Rattle.lrs_measure.specs.Fraction.{Fraction, IsLowest, IsQuotient}
use Rattle.std.proofs.lemmas.Option.{same_Some}
use Rattle.lrs_measure.specs.Limits.{greatest_measure, longest_route}
use Rattle.lrs_measure.proofs.Lowest.{den_divides}
use Rattle.lrs_element.specs.declared.marks.Mark.{Mark}
use Rattle.lrs_element.specs.Marks.{IsOnLine, last_mark, last_of}
use Rattle.lrs_element.specs.Line.{HasMeasure, IsReadable}
use Rattle.lrs_position.specs.declared.route.Route.{Route}
use Rattle.lrs_position.proofs.Line.{Climb, after_first, before_last}
use Rattle.lrs_position.proofs.Answering.{IsSound-from_route}
use Rattle.lrs_report_lists.specs.Measures.{decimal_measure, first_passing, least_denominator, lowest_terms, measure_between, measure_on, measure_pair, thousandths, whole}

-- ---- lowest terms

is_false : (b : Bool) → (b ≡ true → ⊥) → b ≡ false
is_false true h = absurd (h refl)
is_false false h = refl

-- one number is looked at, and then those behind it
passing_step : (test : ℕ → Bool) (m : ℕ) → test m ≡ true → ((e : ℕ) → 1 ≤ e → e < m → test e ≡ false) → (more k : ℕ) → 1 ≤ k → k ≤ m
    → (k + 1 ≤ m → first_passing test (k + 1) more ≡ m) → (b : Bool) → test k ≡ b → cond b k (first_passing test (k + 1) more) ≡ m
passing_step test m here before more k one low behind true t =
    let no : k < m → ⊥ = λ l. both_ways (test k) (before k one l) t in
    omega arith
passing_step test m here before more k one low behind false t =
    let no : k ≡ m → ⊥ = λ e. both_ways (test m) (subst (λ (n : ℕ). test n ≡ false) e t) here in
    behind (omega arith)

first_is : (test : ℕ → Bool) (m : ℕ) → test m ≡ true → ((e : ℕ) → 1 ≤ e → e < m → test e ≡ false) → (more k : ℕ) → 1 ≤ k → k ≤ m → m ≤ k + more → first_passing test k more ≡ m
first_is test m here before zero k one low high = omega arith
first_is test m here before (suc more) k one low high =
    passing_step test m here before more k one low (λ l. first_is test m here before more (k + 1) (omega arith) l (omega arith)) (test k) refl

cross : (r e d n k m : ℕ) → r * d ≡ n * m → k * d ≡ n * e → r * e * d ≡ k * m * d
cross r e d n k m same whole = omega (arith, ap (λ (z : ℕ). z * e) same, ap (λ (z : ℕ). z * m) whole)

-- a fraction in lowest terms with the value of n/d is n/d in lowest terms
module _ (m : Fraction) (r n d : ℕ) (low : IsLowest m) (num : m.num ≡ pos r) (wide : 0 < d) (same : r * d ≡ n * m.den) where
  divides : d ∣ n * m.den
  divides = subst (λ (z : ℕ). d ∣ z) same (dvd-mul_left d r)

  quotient : (k e : ℕ) → r * e ≡ k * m.den → IsQuotient m (pos k) e
  quotient k e h = rw num (ap pos h)

  here : nat_eq (n * m.den % d) 0 ≡ true
  here = eq-eqb (n * m.den % d) 0 (mod-eq-zero_of_dvd d divides)

  -- each denominator that serves is one of its multiples
  least : (e : ℕ) → 0 < e → nat_eq (n * e % d) 0 ≡ true → m.den ≤ e
  least e above t =
      let whole : d ∣ n * e = dvd_of_mod-eq-zero d (eqb-true (n * e % d) 0 t) in
      let k : n * e / d * d ≡ n * e = div-mul_cancel d whole in
      le_of_dvd above (den_divides m (pos (n * e / d)) e low (quotient (n * e / d) e (eq_of_mul-eq-mul_right d wide (r * e) (n * e / d * m.den) (cross r e d n (n * e / d) m.den same k))))

  before : (e : ℕ) → 1 ≤ e → e < m.den → nat_eq (n * e % d) 0 ≡ false
  before e one l = is_false (nat_eq (n * e % d) 0) (λ t. let k : m.den ≤ e = least e (omega arith) t in omega arith)

  pub fits : m.den ≤ d
  fits = le_of_dvd wide (den_divides m (pos n) d low (quotient n d same))

  denominator_is : least_denominator n d ≡ m.den
  denominator_is =
      let small = fits in
      first_is (λ e. nat_eq (n * e % d) 0) m.den here before d 1 (omega arith) (omega arith) (omega arith)

  top_is : n * m.den / d ≡ r
  top_is = eq_of_mul-eq-mul_right d wide (n * m.den / d) r (div-mul_cancel d divides ∙ sym same)

  pub lowest_is : m ≡ lowest_terms n d
  unfolding lowest_terms
  lowest_is =
      let top : m.num ≡ pos (n * least_denominator n d / d) = num ∙ ap pos (sym top_is) ∙ ap (λ (e : ℕ). pos (n * e / d)) (sym denominator_is) in
      let den : m.den ≡ least_denominator n d = sym denominator_is in
      λ i. record { num = top i; den = den i }

-- ---- the stretch between two marks

-- a pair is found, and the measure r/e is its value
abbrev Found : Option (ℕ × ℕ) → ℕ → ℕ → Type 0
Found o r e = (m : ℕ × ℕ) × (o ≡ Some m) × (0 < m.1) × (r * m.1 ≡ m.0 * e)

between_line : (r first e v w u s : ℕ) → r ≡ first * e + v → v * w * 1 ≡ u * s * e → r * w ≡ (first * w + u * s) * e
between_line r first e v w u s split line = omega (arith, ap (λ (k : ℕ). k * w) split, line)

end_line : (r last e first w s u : ℕ) → r ≡ last * e → last ≡ first + s → u ≡ w → r * w ≡ (first * w + u * s) * e
end_line r last e first w s u at rise all = omega (arith, ap (λ (k : ℕ). k * w) at, ap (λ (k : ℕ). k * (e * w)) rise, ap (λ (k : ℕ). k * (s * e)) all)

at_stretch : (p q : Mark) (rest : List Mark) (c r e : ℕ) → Climb (p ∷ q ∷ rest) → (IsOnLine (q ∷ rest) (c, 1) (r, e) → Found (measure_pair (q ∷ rest) c) r e)
    → IsOnLine (p ∷ q ∷ rest) (c, 1) (r, e) → (b : Bool) → nat_le c q.chainage ≡ b → Found (cond b (Some (measure_between p q c)) (measure_pair (q ∷ rest) c)) r e
at_stretch p q rest c r e climb behind (inl b) true t =
    let hc = climb.0.chainage in
    let wide : 0 < q.chainage - p.chainage = omega arith in
    let above = b.above in
    let split : r ≡ p.measure * e + (r - p.measure * e) = omega arith in
    let from : c - p.chainage * 1 ≡ c - p.chainage = omega arith in
    let line : (r - p.measure * e) * (q.chainage - p.chainage) * 1 ≡ (c - p.chainage) * (q.measure - p.measure) * e = b.line ∙ ap (λ (u : ℕ). u * (q.measure - p.measure) * e) from in
    (measure_between p q c, refl, wide, between_line r p.measure e (r - p.measure * e) (q.chainage - p.chainage) (c - p.chainage) (q.measure - p.measure) split line)
at_stretch p q rest c r e climb behind (inr h) true t =
    let hc = climb.0.chainage in
    let hm = climb.0.measure in
    let wide : 0 < q.chainage - p.chainage = omega arith in
    let low : c ≤ q.chainage = leb-true c q.chainage t in
    let a = after_first q rest c 1 r e climb.1 (omega arith) h in
    let from : q.chainage * 1 ≤ c = a.0 in
    let at : r ≡ q.measure * e = a.2 (omega arith) in
    let rise : q.measure ≡ p.measure + (q.measure - p.measure) = omega arith in
    let all : c - p.chainage ≡ q.chainage - p.chainage = omega arith in
    (measure_between p q c, refl, wide, end_line r q.measure e p.measure (q.chainage - p.chainage) (q.measure - p.measure) (c - p.chainage) at rise all)
at_stretch p q rest c r e climb behind (inl b) false t = let to = b.to in absurd (both_ways (nat_le c q.chainage) t (le-leb c q.chainage (omega arith)))
at_stretch p q rest c r e climb behind (inr h) false t = behind h

pair_is : (marks : List Mark) (c r e : ℕ) → Climb marks → IsOnLine marks (c, 1) (r, e) → Found (measure_pair marks c) r e
pair_is [] c r e climb h = absurd h
pair_is (p ∷ []) c r e climb h = absurd h
pair_is (p ∷ q ∷ rest) c r e climb h = at_stretch p q rest c r e climb (pair_is (q ∷ rest) c r e climb.1) h (nat_le c q.chainage) refl

-- ---- behind the last mark

highest : (p : Mark) (rest : List Mark) → Climb (p ∷ rest) → p.chainage ≤ (last_of p rest).chainage
highest p [] climb = omega arith
highest p (q ∷ rest) climb = let up = climb.0.chainage in let high = highest q rest climb.1 in omega arith

off_line : (p : Mark) (rest : List Mark) (c : ℕ) → Climb (p ∷ rest) → (last_of p rest).chainage < c → measure_pair (p ∷ rest) c ≡ None
off_line p [] c climb h = refl
off_line p (q ∷ rest) c climb h =
    let high = highest q rest climb.1 in
    let past : nat_le c q.chainage ≡ false = is_false (nat_le c q.chainage) (λ t. let l : c ≤ q.chainage = leb-true c q.chainage t in omega arith) in
    ap (λ b. cond b (Some (measure_between p q c)) (measure_pair (q ∷ rest) c)) past ∙ off_line q rest c climb.1 h

no_pair : (marks : List Mark) (c : ℕ) → Climb marks → (last_mark marks).chainage < c → measure_pair marks c ≡ None
no_pair [] c climb h = refl
no_pair (p ∷ rest) c climb h = off_line p rest c climb h

-- behind the end of a route there is no measure
pub no_measure : (route : Route) (c : ℕ) → length route.course < c → None ≡ measure_on route.marks c
unfolding measure_on
no_measure route c h =
    let sound = IsSound-from_route route in
    let end : (last_mark route.marks).chainage ≡ length route.course = sound.end in
    sym (ap (option_map (λ m. lowest_terms m.0 m.1)) (no_pair route.marks c sound.climb (omega arith)))

-- ---- on a route

-- the fraction of a whole number
abbrev pub whole_fraction : ℤ → Fraction
whole_fraction n = record { num = n; den = 1 }

measured : (route : Route) (c : ℕ) (x m : Fraction) → x ≡ whole c → HasMeasure route.marks x m → IsLowest m → Some m ≡ measure_on route.marks c
unfolding measure_on
measured route c x m is has low =
    let nums : pos has.along ≡ pos c = sym has.chainage ∙ ap (λ (q : Fraction). q.num) is in
    let along : has.along ≡ c = cc in
    let one : x.den ≡ 1 = ap (λ (q : Fraction). q.den) is in
    let line : IsOnLine route.marks (c, 1) (has.reading, m.den) = subst (λ (k : ℕ × ℕ). IsOnLine route.marks k (has.reading, m.den)) (λ i. (along i, one i)) has.line in
    let found = pair_is route.marks c has.reading m.den (IsSound-from_route route).climb line in
    ap (λ (q : Fraction). Some q) (lowest_is m has.reading found.0.0 found.0.1 low has.measure found.2 found.3)
    ∙ sym (ap (option_map (λ m. lowest_terms m.0 m.1)) found.1)

readable : (route : Route) (c : ℕ) (x : Fraction) → x ≡ whole c → c ≤ length route.course → IsReadable 0 (last_mark route.marks).chainage x
readable route c x is on =
    let end : (last_mark route.marks).chainage ≡ length route.course = (IsSound-from_route route).end in
    subst (IsReadable 0 (last_mark route.marks).chainage) (sym is) (record { fine = omega arith; from = omega (arith, ints); to = omega (arith, ints) })

-- what the marks answer on the route is the measure
pub measure_told : (route : Route) (c : ℕ) (x : Fraction) (o : Option Fraction) → x ≡ whole c → c ≤ length route.course
    → ((last_mark route.marks).chainage ≤ longest_route → (IsSome o ↔ IsReadable 0 (last_mark route.marks).chainage x))
    → IfSome o (λ m. HasMeasure route.marks x m) → IfSome o (λ m. IsLowest m) → o ≡ measure_on route.marks c
measure_told route c x None is on some value low =
    let sound = IsSound-from_route route in
    let end : (last_mark route.marks).chainage ≡ length route.course = sound.end in
    let longest : length route.course ≤ 10_000_000_000 = sound.longest in
    let fits : (last_mark route.marks).chainage ≤ longest_route = omega arith in
    absurd (false≢true ((some fits).1 (readable route c x is on)))
measure_told route c x (Some m) is on some value low = measured route c x m is value low

-- there is one exactly on the route
pub told_on : (route : Route) (c : ℕ) (x : Fraction) (o : Option Fraction) → x ≡ whole c → c ≤ length route.course
    → ((last_mark route.marks).chainage ≤ longest_route → (IsSome o ↔ IsReadable 0 (last_mark route.marks).chainage x)) → IsSome o ↔ (c ≤ length route.course)
told_on route c x o is on some =
    let sound = IsSound-from_route route in
    let end : (last_mark route.marks).chainage ≡ length route.course = sound.end in
    let longest : length route.course ≤ 10_000_000_000 = sound.longest in
    let fits : (last_mark route.marks).chainage ≤ longest_route = omega arith in
    (λ t. on, λ l. (some fits).1 (readable route c x is on))

pub none_behind : (c len : ℕ) → len < c → IsSome {T = Fraction} None ↔ (c ≤ len)
none_behind c len h = (λ t. absurd (false≢true t), λ l. let no : ⊥ = omega arith in absurd no)

-- ---- thousandths

-- a value has one number of thousandths, however it is written
same_thousandths : (r e n d : ℕ) → 0 < e → 0 < d → r * d ≡ n * e → thousandths r e ≡ thousandths n d
same_thousandths r e n d above wide same =
    let top : (2000 * r + e) * d ≡ (2000 * n + d) * e = omega (arith, ap (λ (k : ℕ). 2000 * k) same) in
    let bottom : 2 * e * d ≡ 2 * d * e = omega arith in
    sym (mul-div-mul_right (2000 * r + e) (2 * e) wide) ∙ (λ i. top i / bottom i) ∙ mul-div-mul_right (2000 * n + d) (2 * d) above

-- the measure on a route is on the line of its marks
on_line : (route : Route) (c : ℕ) (m : Fraction) → (has : HasMeasure route.marks (whole c) m) → IsOnLine route.marks (c, 1) (has.reading, m.den)
on_line route c m has =
    let along : has.along ≡ c = ap unsigned_abs (sym has.chainage) in
    subst (λ (k : ℕ). IsOnLine route.marks (k, 1) (has.reading, m.den)) along has.line

-- in thousandths it is what its definition names
pub thousandths_told : (route : Route) (c : ℕ) (m : Fraction) → HasMeasure route.marks (whole c) m → IsLowest m → Some (thousandths (unsigned_abs m.num) m.den) ≡ decimal_measure route.marks c
unfolding decimal_measure
thousandths_told route c m has low =
    let found = pair_is route.marks c has.reading m.den (IsSound-from_route route).climb (on_line route c m has) in
    let size : unsigned_abs m.num ≡ has.reading = ap unsigned_abs has.measure in
    ap (λ k. Some (thousandths k m.den)) size
    ∙ ap (λ k. Some k) (same_thousandths has.reading m.den found.0.0 found.0.1 low.positive found.2 found.3)
    ∙ sym (ap (option_map (λ m. thousandths m.0 m.1)) found.1)

-- where there is no measure, there are no thousandths
pub no_thousandths : (marks : List Mark) (c : ℕ) → None ≡ measure_on marks c → None ≡ decimal_measure marks c
unfolding measure_on decimal_measure
no_thousandths marks c h = by (measure_pair marks c) h
  where
    by : (o : Option (ℕ × ℕ)) → None ≡ option_map (λ m. lowest_terms m.0 m.1) o → None ≡ option_map (λ m. thousandths m.0 m.1) o
    by None h = refl
    by (Some m) h = absurd (false≢true (ap is_some h))

below_top : (marks : List Mark) (c r e : ℕ) → Climb marks → IsOnLine marks (c, 1) (r, e) → r ≤ (last_mark marks).measure * e
below_top [] c r e climb h = absurd h
below_top (p ∷ rest) c r e climb h = (before_last p rest c 1 r e climb (omega arith) h).1

-- a measure on a route is at most the greatest
pub measure_small : (route : Route) (c : ℕ) (m : Fraction) → HasMeasure route.marks (whole c) m → unsigned_abs m.num ≤ greatest_measure * m.den
measure_small route c m has =
    let sound = IsSound-from_route route in
    let size : unsigned_abs m.num ≡ has.reading = ap unsigned_abs has.measure in
    let below = below_top route.marks c has.reading m.den sound.climb (on_line route c m has) in
    let high = mul-le-mul_right m.den sound.highest in
    let whole : has.reading ≤ greatest_measure * m.den = le_trans below high in
    omega (arith, size, whole)

pair_step : (p q : Mark) (rest : List Mark) (c last : ℕ) (m : ℕ × ℕ) → q.chainage ≤ last → (measure_pair (q ∷ rest) c ≡ Some m → m.1 ≤ last) → (b : Bool)
    → cond b (Some (measure_between p q c)) (measure_pair (q ∷ rest) c) ≡ Some m → m.1 ≤ last
pair_step p q rest c last m within behind true e =
    let wide : q.chainage - p.chainage ≡ m.1 = ap (λ (k : ℕ × ℕ). k.1) (same_Some _ _ e) in
    omega arith
pair_step p q rest c last m within behind false e = behind e

pair_wide : (marks : List Mark) (c : ℕ) (m : ℕ × ℕ) → Climb marks → measure_pair marks c ≡ Some m → m.1 ≤ (last_mark marks).chainage
pair_wide [] c m climb e = absurd (false≢true (ap is_some e))
pair_wide (p ∷ []) c m climb e = absurd (false≢true (ap is_some e))
pair_wide (p ∷ q ∷ rest) c m climb e = pair_step p q rest c (last_of q rest).chainage m (highest q rest climb.1) (pair_wide (q ∷ rest) c m climb.1) (nat_le c q.chainage) e

-- its denominator is at most the length of the longest route
pub measure_fine : (route : Route) (c : ℕ) (m : Fraction) → HasMeasure route.marks (whole c) m → IsLowest m → m.den ≤ longest_route
measure_fine route c m has low =
    let sound = IsSound-from_route route in
    let end : (last_mark route.marks).chainage ≡ length route.course = sound.end in
    let longest : length route.course ≤ 10_000_000_000 = sound.longest in
    let found = pair_is route.marks c has.reading m.den sound.climb (on_line route c m has) in
    let wide : found.0.1 ≤ (last_mark route.marks).chainage = pair_wide route.marks c found.0 sound.climb found.1 in
    let fine : m.den ≤ found.0.1 = fits m has.reading found.0.0 found.0.1 low has.measure found.2 found.3 in
    omega (arith, end, longest, wide, fine)
