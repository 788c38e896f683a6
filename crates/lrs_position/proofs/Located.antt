use Rattle.std.proofs.Common.{ℕ, suc, ◌≡◌, ◌+◌, ◌-◌, ◌*◌, ◌<◌, ◌≤◌, sym, ◌∙◌, ap, refl, subst, arith, ℤ, pos, negsuc, ◌+ℤ◌, ◌*ℤ◌, unsigned_abs, true, nat_le, is_some, List, ◌∷◌, [], length, Option, Some, None}
use Rattle.std.specs.Int.{◌∣◌}
use Rattle.std.specs.Option.{option_and_then}
use Rattle.std.proofs.Math.Nat.{mul-le-mul_right, mul-pos, le_of_mul-le-mul_right, eq_of_mul-eq-mul_right, dvd-mul_left, dvd-sub}
use Rattle.std.proofs.lemmas.Int.{ints}
use Rattle.std.proofs.lemmas.Bool.{leb-true, le-leb}
use Rattle.std.proofs.lemmas.Option.{cond_some, same_Some}
use Rattle.lrs_measure.specs.Fraction.{Fraction, IsLowest, IsEqual}
use Rattle.lrs_measure.specs.Texts.{Name}
use Rattle.lrs_measure.proofs.Lowest.{same_fraction}
use Rattle.lrs_element.specs.declared.marks.Mark.{Mark}
use Rattle.lrs_element.specs.Marks.{last_mark, IsOnLine}
use Rattle.lrs_position.specs.declared.expression.Expr.{Expr}
use Rattle.lrs_position.specs.declared.expression.Expr.TheVariants.{Abs, Rel, Int}
use Rattle.lrs_position.specs.Locations.{Alignment, Locates, located, within, at_measure, at_proportion}
use Rattle.lrs_position.specs.Translations.{number_of, target_of}
use Rattle.lrs_position.proofs.Line.{Climb, same_measure, same_chainage, IsOnLine-scale, before_last, chainage_at-IsOnLine, chainage_at-some}

-- what a route is known to keep
pub record IsSound (a : Alignment) : Type 0 where
  pub climb : Climb a.marks
  pub end : (last_mark a.marks).chainage ≡ length a.course
  pub positive : 0 < length a.course
  pub longest : length a.course ≤ 10_000_000_000
  pub highest : (last_mark a.marks).measure ≤ 100_000_000_000

-- what is on the line lies at or before the last mark
before_end : (marks : List Mark) (x d n e : ℕ) → Climb marks → 0 < d → IsOnLine marks (x, d) (n, e) → x ≤ (last_mark marks).chainage * d
before_end [] x d n e c dp h = absurd h
before_end (p ∷ rest) x d n e c dp h = (before_last p rest x d n e c dp h).0

pos_injective : (a b : ℕ) → pos a ≡ pos b → a ≡ b
pos_injective a b e = ap unsigned_abs e

-- ---- distances from a referent

-- so far from an entry, at another denominator
pub distance_scaled : (at den n d : ℕ) (t : ℤ) → pos (at * den) +ℤ t ≡ pos n → pos (n * d) ≡ pos (at * den * d) +ℤ (t *ℤ pos d)
distance_scaled at den n d (pos k) e =
    let s : at * den + k ≡ n = pos_injective _ _ e in
    let g : (at * den + k) * d ≡ n * d = ap (λ (i : ℕ). i * d) s in
    omega (arith, ints)
distance_scaled at den n d (negsuc k) e =
    let s : at * den ≡ n + suc k = omega (arith, ints) in
    let g : at * den * d ≡ (n + suc k) * d = ap (λ (i : ℕ). i * d) s in
    omega (arith, ints)

-- the whole number of 1/den that the chainage has
distance_natural : (at den x d : ℕ) (t : ℤ) → 0 < d → pos (x * den) ≡ pos (at * den * d) +ℤ (t *ℤ pos d) → (n : ℕ) × (pos (at * den) +ℤ t ≡ pos n) × (n * d ≡ x * den)
distance_natural at den x d (pos k) p e =
    let s : x * den ≡ at * den * d + k * d = pos_injective _ _ e in
    (at * den + k, refl, omega arith)
distance_natural at den x d (negsuc k) p e =
    let s : at * den * d ≡ x * den + suc k * d = omega (arith, ints) in
    let l : suc k * d ≤ at * den * d = omega arith in
    let m : suc k ≤ at * den = le_of_mul-le-mul_right l p in
    let n : ℕ = at * den - suc k in
    let split : at * den ≡ n + suc k = omega arith in
    let g : at * den * d ≡ n * d + suc k * d = ap (λ (i : ℕ). i * d) split ∙ omega arith in
    (n, omega (arith, ints), omega arith)

-- a difference is one number
cancel_sum : (p q : ℕ) (a b : ℤ) → pos p ≡ pos q +ℤ a → pos p ≡ pos q +ℤ b → a ≡ b
cancel_sum p q a b e f = omega (arith, ints)

-- the denominator divides the distance times that of the chainage
pub distance_divides : (at den x d : ℕ) (t : ℤ) → pos (x * den) ≡ pos (at * den * d) +ℤ (t *ℤ pos d) → den ∣ unsigned_abs t * d
distance_divides at den x d (pos k) e =
    let s : x * den ≡ at * den * d + k * d = pos_injective _ _ e in
    let y : k * d ≡ x * den - at * d * den = omega arith in
    rw y (dvd-sub den (dvd-mul_left den x) (dvd-mul_left den (at * d)))
distance_divides at den x d (negsuc k) e =
    let s : at * den * d ≡ x * den + suc k * d = omega (arith, ints) in
    let y : suc k * d ≡ at * d * den - x * den = omega arith in
    rw y (dvd-sub den (dvd-mul_left den (at * d)) (dvd-mul_left den x))

-- ---- what is found is located

pub located_within : (len : ℕ) (z : ℤ) (d : ℕ) (x : ℕ × ℕ) → within len z d ≡ Some x → (z ≡ pos x.0) × (d ≡ x.1) × (x.0 ≤ len * d)
located_within len (pos n) d x h =
    let c = cond_some (nat_le n (len * d)) (n, d) x h in
    (ap (λ (p : ℕ × ℕ). pos p.0) c.1, ap (λ (p : ℕ × ℕ). p.1) c.1, subst (λ (k : ℕ). k ≤ len * d) (ap (λ (p : ℕ × ℕ). p.0) c.1) (leb-true _ _ c.0))
located_within len (negsuc n) d x h = absurd (cc h)

sound_measure : (a : Alignment) (num : ℤ) (den : ℕ) (x : ℕ × ℕ) → IsSound a → 0 < den → at_measure a.marks num den ≡ Some x → (n : ℕ) × (num ≡ pos n) × (0 < x.1) × IsOnLine a.marks (x.0, x.1) (n, den)
sound_measure a (pos n) den x s dp h = let l = chainage_at-IsOnLine a.marks n den x.0 x.1 s.climb dp h in (n, refl, l.0, l.1)
sound_measure a (negsuc n) den x s dp h = absurd (cc h)

sound_distance : (len den : ℕ) (t : ℤ) (o : Option ℕ) (x : ℕ × ℕ) → 0 < den → option_and_then (λ at. within len (pos (at * den) +ℤ t) den) o ≡ Some x
    → (at : ℕ) × (o ≡ Some at) × (0 < x.1) × (pos (x.0 * den) ≡ pos (at * den * x.1) +ℤ (t *ℤ pos x.1)) × (x.0 ≤ len * x.1)
sound_distance len den t None x dp h = absurd (cc h)
sound_distance len den t (Some at) x dp h =
    let w = located_within len (pos (at * den) +ℤ t) den x h in
    let den_is : den ≡ x.1 = w.1 in
    let e : pos (x.0 * den) ≡ pos (at * den * den) +ℤ (t *ℤ pos den) = distance_scaled at den x.0 den t w.0 in
    let P : ℕ → Type 0 = λ d. (0 < d) × (pos (x.0 * den) ≡ pos (at * den * d) +ℤ (t *ℤ pos d)) × (x.0 ≤ len * d) in
    let r = subst P den_is (dp, e, w.2) in
    (at, refl, r.0, r.1, r.2)

sound_proportion : (len den : ℕ) (num : ℤ) (x : ℕ × ℕ) → 0 < den → at_proportion len num den ≡ Some x → (n : ℕ) × (num ≡ pos n) × (n ≤ den) × (0 < x.1) × (x.0 * den ≡ n * len * x.1)
sound_proportion len den (pos n) x dp h =
    let c = cond_some (nat_le n den) (n * len, den) x h in
    let num_is : n * len ≡ x.0 = ap (λ (p : ℕ × ℕ). p.0) c.1 in
    let den_is : den ≡ x.1 = ap (λ (p : ℕ × ℕ). p.1) c.1 in
    (n, refl, leb-true _ _ c.0, subst (λ (k : ℕ). 0 < k) den_is dp, ap (λ (k : ℕ). k * den) (sym num_is) ∙ ap (λ (k : ℕ). n * len * k) den_is)
sound_proportion len den (negsuc n) x dp h = absurd (cc h)

pub located-sound : (a : Alignment) (chainage_on : Name → Option ℕ) (e : Expr) (x : ℕ × ℕ) → IsSound a → 0 < (number_of e).den → located a chainage_on e ≡ Some x → Locates a chainage_on e x
located-sound a chainage_on (Abs m) x s dp h = sound_measure a m.num m.den x s dp h
located-sound a chainage_on (Rel name t) x s dp h = sound_distance (length a.course) t.den t.num (chainage_on name) x dp h
located-sound a chainage_on (Int p) x s dp h = sound_proportion (length a.course) p.den p.num x dp h

-- ---- what is located is found

at_some : {A B : Type 0} (f : A → Option B) (o : Option A) (a : A) → o ≡ Some a → is_some (f a) ≡ true → is_some (option_and_then f o) ≡ true
at_some f o a e h = rw e h

within_some : (len d n : ℕ) (z : ℤ) → z ≡ pos n → n ≤ len * d → is_some (within len z d) ≡ true
within_some len d n z e h = rw (e, le-leb _ _ h) refl

proportion_some : (len den n : ℕ) (z : ℤ) → z ≡ pos n → n ≤ den → is_some (at_proportion len z den) ≡ true
proportion_some len den n z e h = rw (e, le-leb _ _ h) refl

pub located-some : (a : Alignment) (chainage_on : Name → Option ℕ) (e : Expr) (x : ℕ × ℕ) → IsSound a → Locates a chainage_on e x → is_some (located a chainage_on e) ≡ true
located-some a chainage_on (Abs m) x s h = rw h.1 (chainage_at-some a.marks h.0 m.den x.0 x.1 s.climb h.2 h.3)
located-some a chainage_on (Rel name t) x s h =
    let n = distance_natural h.0 t.den x.0 x.1 t.num h.2 h.3 in
    let l : x.0 * t.den ≤ length a.course * x.1 * t.den = mul-le-mul_right t.den h.4 in
    let nd = n.2 in
    let m : n.0 * x.1 ≤ length a.course * t.den * x.1 = omega arith in
    let below : n.0 ≤ length a.course * t.den = le_of_mul-le-mul_right m h.2 in
    at_some (λ at. within (length a.course) (pos (at * t.den) +ℤ t.num) t.den) (chainage_on name) h.0 h.1 (within_some (length a.course) t.den n.0 _ n.1 below)
located-some a chainage_on (Int p) x s h = proportion_some (length a.course) p.den h.0 p.num h.1 h.2

-- ---- a place has one value, and may be written with another denominator

-- x / d and y / b are both n / den
same_quotient : (n den x d y b : ℕ) → 0 < den → n * d ≡ x * den → n * b ≡ y * den → x * b ≡ y * d
same_quotient n den x d y b p e f =
    eq_of_mul-eq-mul_right den p (x * b) (y * d)
    (let g : n * d * b ≡ x * den * b = ap (λ (k : ℕ). k * b) e in let h : n * b * d ≡ y * den * d = ap (λ (k : ℕ). k * d) f in omega arith)

pub Locates-same : (a : Alignment) (chainage_on : Name → Option ℕ) (e : Expr) (x y : ℕ × ℕ) → IsSound a → 0 < (number_of e).den → Locates a chainage_on e x → Locates a chainage_on e y → x.0 * y.1 ≡ y.0 * x.1
Locates-same a chainage_on (Abs m) x y s dp h k =
    let n_same : h.0 ≡ k.0 = pos_injective _ _ (sym h.1 ∙ k.1) in
    same_chainage a.marks x.0 x.1 h.0 m.den y.0 y.1 k.0 m.den s.climb h.2 k.2 dp dp h.3 k.3 (ap (λ (i : ℕ). i * m.den) n_same)
Locates-same a chainage_on (Rel name t) x y s dp h k =
    let at_same : h.0 ≡ k.0 = same_Some _ _ (sym h.1 ∙ k.1) in
    let n = distance_natural h.0 t.den x.0 x.1 t.num h.2 h.3 in
    let m = distance_natural k.0 t.den y.0 y.1 t.num k.2 k.3 in
    let n_same : n.0 ≡ m.0 = pos_injective _ _ (sym n.1 ∙ ap (λ (i : ℕ). pos (i * t.den) +ℤ t.num) at_same ∙ m.1) in
    same_quotient n.0 t.den x.0 x.1 y.0 y.1 dp n.2 (ap (λ (i : ℕ). i * y.1) n_same ∙ m.2)
Locates-same a chainage_on (Int p) x y s dp h k =
    let n_same : h.0 ≡ k.0 = pos_injective _ _ (sym h.1 ∙ k.1) in
    same_quotient (h.0 * length a.course) p.den x.0 x.1 y.0 y.1 dp (sym h.4) (ap (λ (i : ℕ). i * length a.course * y.1) n_same ∙ sym k.4)

-- n / den is x / d, so it is y / b
other_quotient : (n den x d y b : ℕ) → 0 < d → n * d ≡ x * den → x * b ≡ y * d → n * b ≡ y * den
other_quotient n den x d y b p e f =
    eq_of_mul-eq-mul_right d p (n * b) (y * den)
    (let g : n * d * b ≡ x * den * b = ap (λ (k : ℕ). k * b) e in let h : x * b * den ≡ y * d * den = ap (λ (k : ℕ). k * den) f in omega arith)

bound_scaled : (len x d y b : ℕ) → 0 < d → x * b ≡ y * d → x ≤ len * d → y ≤ len * b
bound_scaled len x d y b p e h =
    let l : x * b ≤ len * d * b = mul-le-mul_right b h in
    let m : y * d ≤ len * b * d = omega arith in
    le_of_mul-le-mul_right m p

pub Locates-scale : (a : Alignment) (chainage_on : Name → Option ℕ) (e : Expr) (x y : ℕ × ℕ) → IsSound a → 0 < y.1 → Locates a chainage_on e x → x.0 * y.1 ≡ y.0 * x.1 → Locates a chainage_on e y
Locates-scale a chainage_on (Abs m) x y s yp h v = (h.0, h.1, yp, IsOnLine-scale a.marks x.0 x.1 h.0 m.den y.0 y.1 s.climb h.2 yp h.3 v)
Locates-scale a chainage_on (Rel name t) x y s yp h v =
    let n = distance_natural h.0 t.den x.0 x.1 t.num h.2 h.3 in
    let q : n.0 * y.1 ≡ y.0 * t.den = other_quotient n.0 t.den x.0 x.1 y.0 y.1 h.2 n.2 v in
    let e : pos (n.0 * y.1) ≡ pos (h.0 * t.den * y.1) +ℤ (t.num *ℤ pos y.1) = distance_scaled h.0 t.den n.0 y.1 t.num n.1 in
    (h.0, h.1, yp, ap pos (sym q) ∙ e, bound_scaled (length a.course) x.0 x.1 y.0 y.1 h.2 v h.4)
Locates-scale a chainage_on (Int p) x y s yp h v =
    (h.0, h.1, h.2, yp, sym (other_quotient (h.0 * length a.course) p.den x.0 x.1 y.0 y.1 h.3 (sym h.4) v))

-- what is located is on the route
pub Locates-within : (a : Alignment) (chainage_on : Name → Option ℕ) (e : Expr) (x : ℕ × ℕ) → IsSound a → 0 < (number_of e).den → Locates a chainage_on e x → (0 < x.1) × (x.0 ≤ length a.course * x.1)
Locates-within a chainage_on (Abs m) x s dp h = (h.2, subst (λ (k : ℕ). x.0 ≤ k * x.1) s.end (before_end a.marks x.0 x.1 h.0 m.den s.climb h.2 h.3))
Locates-within a chainage_on (Rel name t) x s dp h = (h.2, h.4)
Locates-within a chainage_on (Int p) x s dp h =
    let l : h.0 * (length a.course * x.1) ≤ p.den * (length a.course * x.1) = mul-le-mul_right (length a.course * x.1) h.2 in
    let e = h.4 in
    let m : x.0 * p.den ≤ length a.course * x.1 * p.den = omega arith in
    (h.3, le_of_mul-le-mul_right m dp)

-- ---- an expression by its method and its chainage

-- n / den and m / b are both x / d
same_numbers : (n den m b x d : ℕ) → 0 < d → n * d ≡ x * den → m * d ≡ x * b → n * b ≡ m * den
same_numbers n den m b x d p e f =
    eq_of_mul-eq-mul_right d p (n * b) (m * den)
    (let g : n * d * b ≡ x * den * b = ap (λ (k : ℕ). k * b) e in let h : m * d * den ≡ x * b * den = ap (λ (k : ℕ). k * den) f in omega arith)

-- naturals with one value are fractions with one value
equal_naturals : (p q : Fraction) (n m : ℕ) → p.num ≡ pos n → q.num ≡ pos m → n * q.den ≡ m * p.den → IsEqual p q
equal_naturals p q n m e f h = rw (e, f) (ap pos h)

equal_distances : (at x d : ℕ) (t u : Fraction) → 0 < d → pos (x * t.den) ≡ pos (at * t.den * d) +ℤ (t.num *ℤ pos d) → pos (x * u.den) ≡ pos (at * u.den * d) +ℤ (u.num *ℤ pos d) → IsEqual t u
equal_distances at x d t u p e f =
    let n = distance_natural at t.den x d t.num p e in
    let m = distance_natural at u.den x d u.num p f in
    let q : n.0 * u.den ≡ m.0 * t.den = same_numbers n.0 t.den m.0 u.den x d p n.2 m.2 in
    let g : pos (n.0 * u.den) ≡ pos (at * t.den * u.den) +ℤ (t.num *ℤ pos u.den) = distance_scaled at t.den n.0 u.den t.num n.1 in
    let h : pos (m.0 * t.den) ≡ pos (at * u.den * t.den) +ℤ (u.num *ℤ pos t.den) = distance_scaled at u.den m.0 t.den u.num m.1 in
    let turn : at * u.den * t.den ≡ at * t.den * u.den = omega arith in
    cancel_sum (n.0 * u.den) (at * t.den * u.den) _ _ g (ap pos q ∙ h ∙ ap (λ (k : ℕ). pos k +ℤ (u.num *ℤ pos t.den)) turn)

-- one proportion for one chainage
equal_proportions : (len x d : ℕ) (p q : Fraction) (n m : ℕ) → 0 < len → 0 < d → p.num ≡ pos n → q.num ≡ pos m → x * p.den ≡ n * len * d → x * q.den ≡ m * len * d → IsEqual p q
equal_proportions len x d p q n m lp dp e f h k =
    equal_naturals p q n m e f (same_numbers n p.den m q.den x (len * d) (mul-pos lp dp) (sym (h ∙ omega arith)) (sym (k ∙ omega arith)))

-- By one method, and from one referent, one expression in lowest terms locates a chainage.
pub same_expression : (a : Alignment) (chainage_on : Name → Option ℕ) (e f : Expr) (x : ℕ × ℕ) → IsSound a → IsLowest (number_of e) → IsLowest (number_of f) → target_of e ≡ target_of f → Locates a chainage_on e x → Locates a chainage_on f x → e ≡ f
same_expression a chainage_on (Abs m) (Abs n) x s le lf t h k =
    let v : h.0 * n.den ≡ k.0 * m.den = same_measure a.marks x.0 x.1 h.0 m.den x.0 x.1 k.0 n.den s.climb h.2 h.2 h.3 k.3 refl in
    ap Abs (same_fraction m n le lf (equal_naturals m n h.0 k.0 h.1 k.1 v))
same_expression a chainage_on (Abs m) (Rel name u) x s le lf t h k = absurd (cc t)
same_expression a chainage_on (Abs m) (Int q) x s le lf t h k = absurd (cc t)
same_expression a chainage_on (Rel name u) (Abs n) x s le lf t h k = absurd (cc t)
same_expression a chainage_on (Rel name u) (Rel other v) x s le lf t h k =
    let names : name ≡ other = cc t in
    let at_same : h.0 ≡ k.0 = same_Some _ _ (sym h.1 ∙ ap chainage_on names ∙ k.1) in
    let there : pos (x.0 * v.den) ≡ pos (h.0 * v.den * x.1) +ℤ (v.num *ℤ pos x.1) = subst (λ (at : ℕ). pos (x.0 * v.den) ≡ pos (at * v.den * x.1) +ℤ (v.num *ℤ pos x.1)) (sym at_same) k.3 in
    let numbers : u ≡ v = same_fraction u v le lf (equal_distances h.0 x.0 x.1 u v h.2 h.3 there) in
    λ i. Rel (names i) (numbers i)
same_expression a chainage_on (Rel name u) (Int q) x s le lf t h k = absurd (cc t)
same_expression a chainage_on (Int p) (Abs n) x s le lf t h k = absurd (cc t)
same_expression a chainage_on (Int p) (Rel name u) x s le lf t h k = absurd (cc t)
same_expression a chainage_on (Int p) (Int q) x s le lf t h k = ap Int (same_fraction p q le lf (equal_proportions (length a.course) x.0 x.1 p q h.0 k.0 s.positive h.3 h.1 k.1 h.4 k.4))
