use Rattle.std.proofs.Common.{ℕ, zero, suc, ◌≡◌, ◌+◌, ◌*◌, ◌/◌, ◌%◌, ◌<◌, ◌≤◌, sym, ap, refl, arith, ℤ, pos, negsuc, ◌+ℤ◌, ◌*ℤ◌, ◌≤ℤ◌, ◌<ℤ◌, unsigned_abs}
use Rattle.std.proofs.Math.Nat.{div-eq_of_lt-le, le_of_mul-le-mul_right, div-add-mod', mul-le-mul_right}
use Rattle.std.proofs.lemmas.Int.{ints}
use Rattle.lrs_measure.specs.Fraction.{Fraction, IsFloor, IsNearest}

-- a natural that is reached by the multiple of an integer, which the next multiple passes, has it as its quotient
whole_quotient : (k : ℤ) (n d : ℕ) → 0 < d → (k *ℤ pos d) ≤ℤ pos n → pos n <ℤ ((k +ℤ pos 1) *ℤ pos d) → k ≡ pos (n / d)
whole_quotient (pos k) n d p h l =
    let low : k * d ≤ n = omega (arith, ints) in
    let high : n < (k + 1) * d = omega (arith, ints) in
    ap pos (sym (div-eq_of_lt-le d low high))
whole_quotient (negsuc zero) n d p h l = let z : 0 * d ≡ 0 = omega arith in absurd (omega (arith, ints))
whole_quotient (negsuc (suc k)) n d p h l =
    let next : negsuc (suc k) +ℤ pos 1 ≡ negsuc k = omega (arith, ints) in
    let m : pos n <ℤ (negsuc k *ℤ pos d) = rw next at l in
    let s : 0 < suc k * d = grind arith in
    absurd (omega (arith, ints))

-- what is above a natural is no multiple of 0
positive_multiple : (k : ℤ) (n d : ℕ) → pos n <ℤ (k *ℤ pos d) → 0 < d
positive_multiple (pos k) n zero l = let z : k * 0 ≡ 0 = omega arith in absurd (omega (arith, ints))
positive_multiple (negsuc k) n zero l = let z : suc k * 0 ≡ 0 = omega arith in absurd (omega (arith, ints))
positive_multiple k n (suc d) l = omega arith

pub floor_is : (q : Fraction) (k : ℤ) (n : ℕ) → 0 < q.den → q.num ≡ pos n → IsFloor q k → k ≡ pos (n / q.den)
floor_is q k n p e h = whole_quotient k n q.den p (rw e at h.reached) (rw e at h.next)

pub nearest_is : (q : Fraction) (k : ℤ) (n : ℕ) → 0 < q.den → q.num ≡ pos n → IsNearest q k → k ≡ pos ((2 * n + q.den) / (2 * q.den))
nearest_is q k n p e h =
    let twice : n * 2 + q.den ≡ 2 * n + q.den = omega arith in
    whole_quotient k (2 * n + q.den) (2 * q.den) (omega arith) (rw (e, twice) at h.reached) (rw (e, twice) at h.next)

-- a number from 0 is a natural
pub natural : (z : ℤ) → pos 0 ≤ℤ z → z ≡ pos (unsigned_abs z)
natural (pos n) h = refl
natural (negsuc n) h = omega (arith, ints)

pub cell_is : (len : ℕ) (q : Fraction) (k : ℤ) → pos 0 ≤ℤ q.num → IsFloor q k → k ≡ pos (unsigned_abs q.num / q.den)
cell_is len q k h f =
    let is = natural q.num h in
    floor_is q k (unsigned_abs q.num) (positive_multiple (k +ℤ pos 1) (unsigned_abs q.num) q.den (rw is at f.next)) is f

pub snap_is : (q : Fraction) (k : ℤ) → pos 0 ≤ℤ q.num → IsNearest q k → k ≡ pos ((2 * unsigned_abs q.num + q.den) / (2 * q.den))
snap_is q k h f =
    let is = natural q.num h in
    let n : ℕ = unsigned_abs q.num in
    let twice : n * 2 + q.den ≡ 2 * n + q.den = omega arith in
    let l : pos (n * 2 + q.den) <ℤ ((k +ℤ pos 1) *ℤ pos (2 * q.den)) = rw is at f.next in
    let p : 0 < 2 * q.den = positive_multiple (k +ℤ pos 1) (n * 2 + q.den) (2 * q.den) l in
    nearest_is q k n (omega arith) is f

-- a quotient of what is at most a multiple
pub quotient_limit : (n d m : ℕ) → 0 < d → n ≤ m * d → n / d ≤ m
quotient_limit n d m p h = let e : n / d * d + n % d ≡ n = div-add-mod' n d in le_of_mul-le-mul_right {k = d} (omega arith) p

-- a rounded quotient of what is at most a multiple
pub rounded_limit : (n d m : ℕ) → 0 < d → n ≤ m * d → (2 * n + d) / (2 * d) ≤ m
rounded_limit n d m p h =
    let e : (2 * n + d) / (2 * d) * (2 * d) + (2 * n + d) % (2 * d) ≡ 2 * n + d = div-add-mod' (2 * n + d) (2 * d) in
    let k : ℕ = (2 * n + d) / (2 * d) in
    let l : k * (2 * d) ≤ 2 * n + d = omega arith in
    below_next k m (λ more. (let g : (m + 1) * (2 * d) ≤ k * (2 * d) = mul-le-mul_right (2 * d) more in omega arith))
  where
    below_next : (k m : ℕ) → (m + 1 ≤ k → ⊥) → k ≤ m
    below_next k m h = omega arith

pub cell_limit : (q : Fraction) (k : ℤ) (len : ℕ) → pos 0 ≤ℤ q.num → q.num ≤ℤ pos (len * q.den) → IsFloor q k → unsigned_abs q.num / q.den ≤ len
cell_limit q k len h l f =
    let is = natural q.num h in
    let p : 0 < q.den = positive_multiple (k +ℤ pos 1) (unsigned_abs q.num) q.den (rw is at f.next) in
    let m : unsigned_abs q.num ≤ len * q.den = omega (arith, ints) in
    quotient_limit (unsigned_abs q.num) q.den len p m

pub snap_limit : (q : Fraction) (k : ℤ) (len : ℕ) → pos 0 ≤ℤ q.num → q.num ≤ℤ pos (len * q.den) → IsNearest q k → (2 * unsigned_abs q.num + q.den) / (2 * q.den) ≤ len
snap_limit q k len h l f =
    let is = natural q.num h in
    let n : ℕ = unsigned_abs q.num in
    let next : pos (n * 2 + q.den) <ℤ ((k +ℤ pos 1) *ℤ pos (2 * q.den)) = rw is at f.next in
    let p : 0 < 2 * q.den = positive_multiple (k +ℤ pos 1) (n * 2 + q.den) (2 * q.den) next in
    let m : n ≤ len * q.den = omega (arith, ints) in
    rounded_limit n q.den len (omega arith) m
