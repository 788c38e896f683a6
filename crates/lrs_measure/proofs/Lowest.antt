use Rattle.std.proofs.Common.{ℕ, zero, suc, ◌≡◌, ◌-◌, ◌*◌, ◌/◌, ◌%◌, ◌<◌, ◌≤◌, sym, ◌∙◌, ap, refl, subst, arith, ℤ, pos, negsuc, neg_ℤ, ◌*ℤ◌, unsigned_abs}
use Rattle.std.specs.Int.{IsGcd, ◌∣◌}
use Rattle.std.proofs.Math.Nat.{dvd_of_mul-dvd-mul_right, mul-dvd-mul_right, one-mul, dvd-mul_left, dvd-mul_right, dvd-mod_iff, one-dvd, dvd-sub, dvd-mul_left_of_dvd, div-add-mod, eq_of_mul-eq-mul_right, div-mul_cancel, pos_of_dvd_of_pos, div-le_self, le_trans}
use Rattle.std.proofs.lemmas.Int.{unsigned_abs-mul, ints}
use Rattle.std.proofs.lemmas.Nat.Gcd.{IsGcd-from_zero, same_from_IsGcd, IsGcd-swap, dvd_antisymm}
use Rattle.lrs_measure.specs.Fraction.{Fraction, IsLowest, IsQuotient, IsEqual, IsInRange, signed_as}

-- a common divisor of the reduced numbers times g divides a
times_divides : (a g d : ℕ) → g ∣ a → d ∣ a / g → d * g ∣ a
times_divides a g d ga da = let P : ℕ → Type 0 = λ n. d * g ∣ n in subst P (div-mul_cancel g ga) (mul-dvd-mul_right d da g)

-- numbers divided by their greatest common divisor have no common divisor
pub IsGcd-reduced : (a b g : ℕ) → 0 < g → IsGcd a b g → IsGcd (a / g) (b / g) 1
IsGcd-reduced a b g p h = (
  one-dvd (a / g),
  one-dvd (b / g),
  λ d da db.
      let P : ℕ → Type 0 = λ n. d * g ∣ n in
      dvd_of_mul-dvd-mul_right d p (subst P (sym (one-mul g)) (h.2 (d * g) (times_divides a g d h.0 da) (times_divides b g d h.1 db))),
)

-- a remainder keeps the divisors
IsGcd-to_mod : (a b g : ℕ) → IsGcd a b g → IsGcd b (a % b) g
IsGcd-to_mod a b g h =
    (h.1, (dvd-mod_iff g {m = a} {n = b} h.1).1 h.0, λ d db dr. h.2 d ((dvd-mod_iff d {m = a} {n = b} db).0 dr) db)

-- what divides both multiples divides the multiple of the greatest common divisor
divides_scaled : (fuel a b c d g : ℕ) → b ≤ fuel → IsGcd a b g → d ∣ a * c → d ∣ b * c → d ∣ g * c
divides_scaled zero a b c d g h gcd da db =
    let e : g ≡ a = same_from_IsGcd a b g a gcd (IsGcd-from_zero a b (omega arith)) in rw e da
divides_scaled (suc fuel) a zero c d g h gcd da db =
    let e : g ≡ a = same_from_IsGcd a 0 g a gcd (IsGcd-from_zero a 0 refl) in rw e da
divides_scaled (suc fuel) a (suc b) c d g h gcd da db =
    let low : a % suc b < suc b = omega arith in
    let r : a % suc b * c ≡ a * c - (a / suc b) * (suc b * c) = omega (arith, ap (λ n. n * c) (div-add-mod a (suc b))) in
    let dr : d ∣ a % suc b * c = rw r (dvd-sub d da (dvd-mul_left_of_dvd d db (a / suc b))) in
    divides_scaled fuel (suc b) (a % suc b) c d g (omega arith) (IsGcd-to_mod a (suc b) g gcd) db dr

-- a divisor of a product that shares nothing with one factor divides the other
pub divides_other : (a b c : ℕ) → IsGcd a b 1 → a ∣ b * c → a ∣ c
divides_other a b c gcd h =
    let P : ℕ → Type 0 = λ n. a ∣ n in subst P (one-mul c) (divides_scaled b a b c a 1 (omega arith) gcd (dvd-mul_right a c) h)

-- two pairs in lowest terms with one value are one pair
pub lowest_pair : (n d m e : ℕ) → 0 < d → 0 < e → IsGcd n d 1 → IsGcd m e 1 → n * e ≡ m * d → (n ≡ m) × (d ≡ e)
lowest_pair n d m e dp ep nd me h =
    let here : d ∣ n * e = rw h (dvd-mul_left d m) in
    let there : e ∣ m * d = rw (← h) (dvd-mul_left e n) in
    let same : d ≡ e = dvd_antisymm (divides_other d n e (IsGcd-swap n d 1 nd) here) (divides_other e m d (IsGcd-swap m e 1 me) there) in
    (eq_of_mul-eq-mul_right d dp n m (ap (λ k. n * k) same ∙ h), same)

-- the reduced numbers have the value of n / d
reduced_value : (n d g : ℕ) → 0 < g → g ∣ n → g ∣ d → n / g * d ≡ n * (d / g)
reduced_value n d g p gn gd = eq_of_mul-eq-mul_right g p _ _
    (let en : n / g * g ≡ n = div-mul_cancel g gn in
    let ed : d / g * g ≡ d = div-mul_cancel g gd in
    let l : n / g * d * g ≡ n * d = omega (arith, ap (λ k. k * d) en) in
    let r : n * (d / g) * g ≡ n * d = omega (arith, ap (λ k. n * k) ed) in
    l ∙ sym r)

signed_value : (n : ℤ) (d size den : ℕ) → size * d ≡ unsigned_abs n * den → signed_as n size *ℤ pos d ≡ n *ℤ pos den
signed_value (pos n) d size den e = ap pos e
signed_value (negsuc n) d zero den e = let z : 0 * d ≡ 0 = omega arith in let w : suc n * den ≡ 0 = sym e ∙ z in rw (z, w)
signed_value (negsuc n) d (suc size) den e = ap (λ k. neg_ℤ (pos k)) e

abs-signed_as : (n : ℤ) (size : ℕ) → unsigned_abs (signed_as n size) ≡ size
abs-signed_as (pos n) size = refl
abs-signed_as (negsuc n) zero = refl
abs-signed_as (negsuc n) (suc size) = refl

-- the numbers that are kept of n / d
abbrev pub reduced : ℤ → ℕ → ℕ → Fraction
reduced n d g = record { num = signed_as n (unsigned_abs n / g); den = d / g }

pub IsQuotient-reduced : (n : ℤ) (d g : ℕ) → 0 < d → IsGcd (unsigned_abs n) d g → IsQuotient (reduced n d g) n d
IsQuotient-reduced n d g p h = signed_value n d (unsigned_abs n / g) (d / g) (reduced_value (unsigned_abs n) d g (pos_of_dvd_of_pos h.1 p) h.0 h.1)

pub IsLowest-reduced : (n : ℤ) (d g : ℕ) → 0 < d → IsGcd (unsigned_abs n) d g → IsLowest (reduced n d g)
IsLowest-reduced n d g p h =
    let q : 0 < g = pos_of_dvd_of_pos h.1 p in
    let e : d / g * g ≡ d = div-mul_cancel g h.1 in
    record {
      positive = grind (arith, e);
      coprime = rw (abs-signed_as n (unsigned_abs n / g)) (IsGcd-reduced (unsigned_abs n) d g q h);
    }

pub IsInRange-reduced : (n : ℤ) (d g : ℕ) → IsInRange n d → IsGcd (unsigned_abs n) d g → IsInRange (reduced n d g).num (reduced n d g).den
IsInRange-reduced n d g p h =
    record {
      positive = (IsLowest-reduced n d g p.positive h).positive;
      denominator = le_trans (div-le_self d g) p.denominator;
      numerator = rw (abs-signed_as n (unsigned_abs n / g)) (le_trans (div-le_self (unsigned_abs n) g) p.numerator);
    }

-- what `new` keeps is the reduced fraction
pub kept_is : (n given : ℤ) (d size g : ℕ) (bits_of : ℤ → ℤ) (kept : ℤ)
    → given ≡ n → size ≡ unsigned_abs given → kept ≡ signed_as given (size / g)
    → kept ≡ signed_as n (unsigned_abs n / g)
kept_is n given d size g bits_of kept e s k = rw (← e, ← s) k

-- the denominator of a fraction in lowest terms divides that of each quotient with its value
pub den_divides : (q : Fraction) (n : ℤ) (d : ℕ) → IsLowest q → IsQuotient q n d → q.den ∣ d
den_divides q n d h e =
    let l : unsigned_abs q.num * d ≡ unsigned_abs n * q.den = sym (unsigned_abs-mul q.num (pos d)) ∙ ap unsigned_abs e ∙ unsigned_abs-mul n (pos q.den) in
    divides_other q.den (unsigned_abs q.num) d (IsGcd-swap _ _ 1 h.coprime) (rw l (dvd-mul_left q.den (unsigned_abs n)))

sign_of_product : (a b : ℤ) (d e : ℕ) → 0 < d → 0 < e → a *ℤ pos e ≡ b *ℤ pos d → unsigned_abs a ≡ unsigned_abs b → a ≡ b
sign_of_product (pos a) (pos b) d e dp ep h s = ap pos s
sign_of_product (negsuc a) (negsuc b) d e dp ep h s = let k : a ≡ b = omega arith in ap negsuc k
sign_of_product (pos a) (negsuc b) d e dp ep h s = let k : 0 < suc b * d = grind arith in absurd (omega (arith, ints))
sign_of_product (negsuc a) (pos b) d e dp ep h s = let k : 0 < suc a * e = grind arith in absurd (omega (arith, ints))

-- fractions in lowest terms with one value are one fraction
pub same_fraction : (p q : Fraction) → IsLowest p → IsLowest q → IsEqual p q → p ≡ q
same_fraction p q h k e =
    let l : unsigned_abs p.num * q.den ≡ unsigned_abs q.num * p.den = sym (unsigned_abs-mul p.num (pos q.den)) ∙ ap unsigned_abs e ∙ unsigned_abs-mul q.num (pos p.den) in
    let s = lowest_pair (unsigned_abs p.num) p.den (unsigned_abs q.num) q.den h.positive k.positive h.coprime k.coprime l in
    let n : p.num ≡ q.num = sign_of_product p.num q.num p.den q.den h.positive k.positive e s.0 in
    λ i. record { num = n i; den = s.1 i }
