use Rattle.std.proofs.Common.{ℕ, ◌≡◌, ◌*◌, ◌<◌, ◌≤◌, ap, arith, ℤ, pos, unsigned_abs, List, Option, Some, None}
use Rattle.std.specs.Option.{IsSome, IfSome}
use Rattle.std.proofs.Math.Nat.{one-dvd, le_of_mul-le-mul_right, mul-le-mul_right}
use Rattle.std.proofs.lemmas.Nat.Gcd.{dvd_refl}
use Rattle.lrs_measure.specs.Fraction.{Fraction, IsLowest, IsQuotient, IsInRange}
use Rattle.lrs_measure.proofs.Lowest.{same_fraction}
use Rattle.lrs_measure.specs.Numerals.{IsFractionText, numerator_text, denominator_text}
use Rattle.std.specs.Str.Parse.{digits_value}
use Rattle.lrs_element.proofs.LineLemmas.{natural_quotient}
use Rattle.lrs_position.specs.declared.expression.Expr.{Expr}
use Rattle.lrs_position.specs.declared.expression.Expr.TheVariants.{Abs, Rel, Int}
use Rattle.lrs_position.specs.declared.expression.Method.TheVariants as method
use Rattle.lrs_position.specs.Expressions.{greatest_denominator}
use Rattle.lrs_position.specs.Readings.{whole, States}
use Rattle.lrs_position.proofs.RoundTrips.{same_place}

-- a whole number is in lowest terms
IsLowest-whole : (n : ℤ) → IsLowest (whole n)
IsLowest-whole n = record { positive = omega arith; coprime = (one-dvd (unsigned_abs n), dvd_refl 1, λ d p q. q) }

-- what is made of a number over 1 is that number
pub whole_is : (o : Option Fraction) (n : ℤ) → IsSome o → IfSome o (λ q. IsQuotient q n 1) → IfSome o (λ q. IsLowest q) → o ≡ Some (whole n)
whole_is None n s v l = absurd (cc s)
whole_is (Some q) n s v l = ap Some (same_fraction q (whole n) l (IsLowest-whole n) v)

pub whole_in_range : (n : ℤ) → unsigned_abs n ≤ 9_223_372_036_854_775_808 → IsInRange n 1
whole_in_range n h = record { positive = omega arith; denominator = omega arith; numerator = omega arith }

-- the proportion that a text states is the one that was read
pub same_proportion : (text : List ℕ) (p : Fraction) (e : Expr) → IsFractionText greatest_denominator text → IsQuotient p (pos (digits_value 10 (numerator_text text))) (digits_value 10 (denominator_text text)) → IsLowest p → States method.Int text e → ◌≡◌ {A = Option Expr} (Some (Int p)) (Some e)
same_proportion text p (Abs m) f q l h = absurd h
same_proportion text p (Rel name t) f q l h = absurd h
same_proportion text p (Int r) f q l h = ap (λ (x : Fraction). Some (Int x)) (same_place p r (digits_value 10 (numerator_text text)) (digits_value 10 (denominator_text text)) f.not_zero l h.lowest q h.value)

-- a proportion of at most the whole is at most 1
at_most_one : (p : Fraction) (n d : ℕ) → 0 < d → n ≤ d → IsQuotient p (pos n) d → unsigned_abs p.num ≤ p.den
at_most_one p n d dp h q =
    let k = natural_quotient p n d dp q in
    let v = k.1 in
    let l : n * p.den ≤ d * p.den = mul-le-mul_right p.den h in
    let m : unsigned_abs p.num * d ≤ p.den * d = omega arith in
    le_of_mul-le-mul_right m dp

-- no text states a proportion above 1
pub no_proportion : (text : List ℕ) (p : Fraction) (e : Expr) → IsQuotient p (pos (digits_value 10 (numerator_text text))) (digits_value 10 (denominator_text text)) → p.den < unsigned_abs p.num → States method.Int text e → ⊥
no_proportion text p (Abs m) q l h = h
no_proportion text p (Rel name t) q l h = h
no_proportion text p (Int r) q l h = let b : unsigned_abs p.num ≤ p.den = at_most_one p (digits_value 10 (numerator_text text)) (digits_value 10 (denominator_text text)) h.fraction.not_zero h.at_most_whole q in omega arith
