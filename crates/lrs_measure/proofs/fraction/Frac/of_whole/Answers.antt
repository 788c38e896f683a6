use Rattle.std.proofs.Common.{◌≤◌, ◌<◌, ◌^◌, ℤ, pos, negsuc, unsigned_abs, arith, to_z, of_z, SFits}
use Rattle.std.specs.Int.{w64, w128}
use Rattle.std.proofs.Math.Nat.{one-dvd}
use Rattle.std.proofs.lemmas.Nat.Gcd.{dvd_refl}
use Rattle.std.proofs.lemmas.Int.{to_z-of_z}
use Rattle.lrs_measure.proofs.fraction.Frac.of_whole.Goals as goal

-- a number of 64 bits is one of 128
wider : (z : ℤ) → SFits w64 z → SFits w128 z
wider (pos n) h = let k : n < 2 ^ 63 = h.sfits in record { sfits = omega arith }
wider (negsuc n) h = let k : n < 2 ^ 63 = h.sfits in record { sfits = omega arith }

small : (z : ℤ) → SFits w64 z → unsigned_abs z ≤ 100_000_000_000_000_000_000_000_000_000_000_000_000
small (pos n) h = let k : n < 2 ^ 63 = h.sfits in omega arith
small (negsuc n) h = let k : n < 2 ^ 63 = h.sfits in omega arith

pub invariant_of-result : goal.invariant_of-result
invariant_of-result c =
    let n = c.args.n in
    let same = to_z-of_z w128 (to_z w64 (of_z w64 n)) (rw (to_z-of_z w64 n c.ranges.n) (wider n c.ranges.n)) in
    rw (same, to_z-of_z w64 n c.ranges.n) (record {
      lowest = record { positive = omega arith; coprime = (one-dvd (unsigned_abs n), dvd_refl 1, λ d p q. q) };
      in_range = record { positive = omega arith; denominator = omega arith; numerator = small n c.ranges.n };
    })
