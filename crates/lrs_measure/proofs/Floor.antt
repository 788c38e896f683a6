use Rattle.std.proofs.Common.{ℕ, zero, suc, ◌≡◌, ◌+◌, ◌*◌, ◌/◌, ◌%◌, ◌<◌, ◌≤◌, refl, arith, ℤ, pos, negsuc, neg_ℤ, ◌*ℤ◌, ◌+ℤ◌, unsigned_abs}
use Rattle.std.specs.Int.{int_div_euclid, int_rem_euclid}
use Rattle.std.proofs.Math.Nat.{div-le_self}
use Rattle.std.proofs.lemmas.Int.{ints}
use Rattle.std.proofs.lemmas.Nat.{mod_below, div-add-mod'}
use Rattle.lrs_measure.specs.Fraction.{IsFloor, IsNearest}

next_of : (k : ℕ) → negsuc k +ℤ pos 1 ≡ neg_ℤ (pos k)
next_of zero = omega (arith, ints)
next_of (suc k) = omega (arith, ints)

neg_times : (k d : ℕ) → neg_ℤ (pos k) *ℤ pos d ≡ neg_ℤ (pos (k * d))
neg_times zero d = let z : 0 * d ≡ 0 = omega arith in rw z
neg_times (suc k) d = refl

-- products of an integer with naturals
scale_two : (k : ℤ) (d : ℕ) → k *ℤ pos (2 * d) ≡ k *ℤ pos d +ℤ k *ℤ pos d
scale_two (pos k) d = omega (arith, ints)
scale_two (negsuc k) d = omega (arith, ints)

scale_next : (k : ℤ) (d : ℕ) → (k +ℤ pos 1) *ℤ pos d ≡ k *ℤ pos d +ℤ pos d
scale_next (pos k) d = omega (arith, ints)
scale_next (negsuc k) d = rw (next_of k, neg_times k d) (omega (arith, ints))

scale_one : (k : ℤ) → k *ℤ pos 2 ≡ k +ℤ k
scale_one (pos k) = omega (arith, ints)
scale_one (negsuc k) = omega (arith, ints)

-- the greatest whole number by the rest
pub IsFloor-from_rest : (n k : ℤ) (d r : ℕ) → n ≡ k *ℤ pos d +ℤ pos r → r < d → IsFloor (record { num = n; den = d }) k
IsFloor-from_rest n k d r e h = record { reached = omega (arith, ints); next = rw (scale_next k d) (omega (arith, ints)) }

-- where the rest is a half or more, the next whole number is nearest
pub nearest_up : (n k : ℤ) (d r : ℕ) → n ≡ k *ℤ pos d +ℤ pos r → r < d → d ≤ r + r → IsNearest (record { num = n; den = d }) (k +ℤ pos 1)
nearest_up n k d r e h half =
    record {
      reached = rw (scale_one n, scale_two (k +ℤ pos 1) d, scale_next k d) (omega (arith, ints));
      next = rw (scale_one n, scale_two (k +ℤ pos 1 +ℤ pos 1) d, scale_next (k +ℤ pos 1) d, scale_next k d) (omega (arith, ints));
    }

-- where the rest is below a half, the floor is nearest
pub nearest_down : (n k : ℤ) (d r : ℕ) → n ≡ k *ℤ pos d +ℤ pos r → r + r < d → IsNearest (record { num = n; den = d }) k
nearest_down n k d r e h =
    record {
      reached = rw (scale_one n, scale_two k d) (omega (arith, ints));
      next = rw (scale_one n, scale_two (k +ℤ pos 1) d, scale_next k d) (omega (arith, ints));
    }

-- quotient and rest
pub split_is : (n : ℤ) (d : ℕ) → 0 < d → n ≡ int_div_euclid n (pos d) *ℤ pos d +ℤ int_rem_euclid n (pos d)
split_is (pos a) d p = let e : a / d * d + a % d ≡ a = div-add-mod' a d in omega (arith, ints)
split_is (negsuc a) d p =
    let m : a % d < d = mod_below a d p in
    let e : a / d * d + a % d ≡ a = div-add-mod' a d in omega (arith, ints)

pub split_small : (n : ℤ) (d m : ℕ) → 0 < d → unsigned_abs n ≤ m → unsigned_abs (int_div_euclid n (pos d)) ≤ m
split_small (pos a) d m p h = omega (arith, div-le_self a d)
split_small (negsuc a) d m p h = omega (arith, div-le_self a d)
