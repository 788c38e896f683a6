use Rattle.std.proofs.Common.{rules, ◌≡◌, ℕ, unsigned_abs, arith, ap, ◌∙◌, to_z, of_z, subst}
use Rattle.std.specs.Int.{IsGcd, w128}
use Rattle.std.proofs.Math.Nat.{pos_of_dvd_of_pos}
use Rattle.std.proofs.lemmas.Int.{to_z-of_z}
use Rattle.lrs_measure.specs.Fraction.{IsInRange}
use Rattle.lrs_measure.proofs.Lowest.{reduced, IsQuotient-reduced, IsLowest-reduced, IsInRange-reduced, kept_is}
use Rattle.lrs_measure.proofs.fraction.Frac.new.Goals as goal

-- the size is that of n
size_is : (c : goal.After-gcd-divisor) → c.unsigned_abs-size.result ≡ unsigned_abs c.args.n
size_is c = c.unsigned_abs-size.ensures.value ∙ ap unsigned_abs (to_z-of_z w128 c.args.n c.ranges.n)

divisor_is : (c : goal.After-gcd-divisor) → IsGcd (unsigned_abs c.args.n) c.args.d c.gcd-divisor.result
divisor_is c = let P = λ (k : ℕ). IsGcd k c.args.d c.gcd-divisor.result in subst P (size_is c) c.gcd-divisor.ensures

in_range : (c : goal.After-gcd-divisor) → IsInRange c.args.n c.args.d
in_range c = record { positive = omega arith; denominator = omega arith; numerator = rw (← (size_is c)) (omega arith) }

result_is : (c : goal.After-with_sign_of) → to_z w128 (of_z w128 c.with_sign_of.result) ≡ (reduced c.args.n c.args.d c.gcd-divisor.result).num
result_is c = to_z-of_z w128 c.with_sign_of.result (search rules) ∙ kept_is c.args.n _ c.args.d _ c.gcd-divisor.result (λ z. z) _ (to_z-of_z w128 c.args.n c.ranges.n) c.unsigned_abs-size.ensures.value c.with_sign_of.ensures

pub nonzero_div-size : goal.nonzero_div-size
nonzero_div-size c = pos_of_dvd_of_pos (divisor_is c).1 (omega arith)

pub nonzero_div-result : goal.nonzero_div-result
nonzero_div-result c = pos_of_dvd_of_pos (divisor_is c.before).1 (omega arith)

pub invariant_of-result : goal.invariant_of-result
invariant_of-result c = rw (result_is c) (record { lowest = IsLowest-reduced _ _ _ (in_range c.before).positive (divisor_is c.before); in_range = IsInRange-reduced _ _ _ (in_range c.before) (divisor_is c.before) })

pub returns-clause-value : goal.returns-clause-value
returns-clause-value c = rw (result_is c) (IsQuotient-reduced _ _ _ (in_range c.before).positive (divisor_is c.before))

pub returns-clause-lowest : goal.returns-clause-lowest
returns-clause-lowest c = rw (result_is c) (IsLowest-reduced _ _ _ (in_range c.before).positive (divisor_is c.before))
