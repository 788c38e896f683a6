use Rattle.std.proofs.Common.{ℕ, ◌≡◌, ◌*◌, ◌^◌, ◌<◌, ◌≤◌, sym, ◌∙◌, ap, refl, subst, arith, ℤ, pos, negsuc, to_z, of_z, ◌+ℤ◌, ◌-ℤ◌, ◌*ℤ◌, unsigned_abs, Bool, true, false, cond, FitsSigned, length, Option, Some, None, Result, Ok, Err}
use Rattle.std.specs.Int.{w128}
use Rattle.std.specs.Option.{MatchOption}
use Rattle.std.specs.Result.{IsOkAnd}
use Rattle.std.proofs.Math.Nat.{mul-pos, le_of_mul-le-mul_right, mul-le-mul_right, le_trans}
use Rattle.std.proofs.lemmas.Nat.{mul-le}
use Rattle.std.proofs.lemmas.Int.{ints, to_z_pos}
use Rattle.lrs_measure.specs.Fraction.{Fraction, IsLowest, IsQuotient, IsInRange}
use Rattle.lrs_measure.specs.Texts.{Name}
use Rattle.lrs_element.proofs.LineLemmas.{natural_quotient}
use Rattle.lrs_position.specs.declared.expression.Expr.{Expr}
use Rattle.lrs_position.specs.declared.expression.Expr.TheVariants.{Rel, Int}
use Rattle.lrs_position.specs.declared.expression.Target.{Target}
use Rattle.lrs_position.specs.declared.expression.Target.TheVariants as target
use Rattle.lrs_position.specs.declared.location.PlaceFault.{PlaceFault}
use Rattle.lrs_position.specs.declared.location.PlaceFault.TheVariants.{NoRef}
use Rattle.lrs_position.specs.Locations.{Alignment}
use Rattle.lrs_position.specs.Translations.{misses_referent, chainage_fault, Expresses, IsExpression}
use Rattle.lrs_position.proofs.Located.{IsSound, distance_scaled}

-- where the referent stands and the chainage is right, the answer is the expression
pub expression_ok : (a : Alignment) (chainage_on : Name → Option ℕ) (x : Fraction) (target : Target) (e : Expr) → misses_referent chainage_on target ≡ false → chainage_fault (length a.course) x ≡ None → Expresses a chainage_on x target e → IsExpression a chainage_on x target (Ok e)
expression_ok a chainage_on x target e m f h = by_case (misses_referent chainage_on target) (chainage_fault (length a.course) x) m f
  where
    by_case : (b : Bool) (o : Option PlaceFault) → b ≡ false → o ≡ None → MatchOption (cond b (Some NoRef) o) (IsOkAnd {T = Expr} {E = PlaceFault} (Ok e) (Expresses a chainage_on x target)) (λ fault. ◌≡◌ {A = Result Expr PlaceFault} (Ok e) (Err fault))
    by_case true o b p = absurd (cc b)
    by_case false None b p = h
    by_case false (Some y) b p = absurd (cc p)

-- ---- a distance

pub difference_bounds : (n len at den : ℕ) → n ≤ len * den → len ≤ 10_000_000_000 → at < 2 ^ 64 → den ≤ 10 ^ 16 → (n ≤ 100_000_000_000_000_000_000_000_000) × (at * den ≤ 184_467_440_737_095_516_160_000_000_000_000_000)
difference_bounds n len at den h l a d =
    let m : len * den ≤ 10_000_000_000 * 10_000_000_000_000_000 = mul-le len den 10_000_000_000 10_000_000_000_000_000 l (omega arith) in
    let b : at * den ≤ 18_446_744_073_709_551_616 * 10_000_000_000_000_000 = mul-le at den 18_446_744_073_709_551_616 10_000_000_000_000_000 (omega arith) (omega arith) in
    (le_trans h m, b)

-- the difference of a chainage and a place fits
pub difference_fits : (n b : ℕ) → n ≤ 100_000_000_000_000_000_000_000_000 → b ≤ 184_467_440_737_095_516_160_000_000_000_000_000 → FitsSigned w128 (to_z w128 n -ℤ to_z w128 b)
difference_fits n b h k = omega (arith, ints)

pub difference_given : (n b : ℕ) → n ≤ 100_000_000_000_000_000_000_000_000 → b ≤ 184_467_440_737_095_516_160_000_000_000_000_000 → pos b +ℤ to_z w128 (of_z w128 (to_z w128 n -ℤ to_z w128 b)) ≡ pos n
difference_given n b h k = omega (arith, ints)

size_bound : (z : ℤ) (n b : ℕ) → pos b +ℤ z ≡ pos n → n ≤ 100_000_000_000_000_000_000_000_000 → b ≤ 184_467_440_737_095_516_160_000_000_000_000_000 → unsigned_abs z ≤ 100_000_000_000_000_000_000_000_000_000_000_000_000
size_bound (pos k) n b e h l = omega (arith, ints)
size_bound (negsuc k) n b e h l = omega (arith, ints)

pub difference_in_range : (n b d : ℕ) → 0 < d → d ≤ 10 ^ 16 → n ≤ 100_000_000_000_000_000_000_000_000 → b ≤ 184_467_440_737_095_516_160_000_000_000_000_000 → IsInRange (to_z w128 (of_z w128 (to_z w128 n -ℤ to_z w128 b))) d
difference_in_range n b d p f h k = record { positive = p; denominator = omega arith; numerator = size_bound _ n b (difference_given n b h k) h k }

-- the difference over the chainage's denominator is the distance
pub distance_expressed : (a : Alignment) (chainage_on : Name → Option ℕ) (x t : Fraction) (name : Name) (n at : ℕ) (z : ℤ) → IsLowest x → IsLowest t → x.num ≡ pos n → n ≤ length a.course * x.den → chainage_on name ≡ Some at → pos (at * x.den) +ℤ z ≡ pos n → IsQuotient t z x.den → Expresses a chainage_on x (target.Rel name) (Rel name t)
distance_expressed a chainage_on x t name n at z lx lt e l s d q =
    let f : pos (n * t.den) ≡ pos (at * x.den * t.den) +ℤ (z *ℤ pos t.den) = distance_scaled at x.den n t.den z d in
    let turn : at * x.den * t.den ≡ at * t.den * x.den = omega arith in
    record {
      method = refl;
      lowest = lt;
      located = (n, e, (at, s, lx.positive, f ∙ ap (λ (k : ℕ). pos k +ℤ (z *ℤ pos t.den)) turn ∙ ap (λ (y : ℤ). pos (at * t.den * x.den) +ℤ y) (sym q), l));
    }

stands : (chainage_on : Name → Option ℕ) (name : Name) (at : ℕ) → chainage_on name ≡ Some at → misses_referent chainage_on (target.Rel name) ≡ false
stands chainage_on name at e = rw e refl

pub distance_ok : (a : Alignment) (chainage_on : Name → Option ℕ) (x t : Fraction) (name : Name) (n at d : ℕ) (z : ℤ) → IsLowest x → IsLowest t → chainage_fault (length a.course) x ≡ None → x.num ≡ pos n → n ≤ length a.course * x.den → chainage_on name ≡ Some at → d ≡ x.den → pos (at * d) +ℤ z ≡ pos n → IsQuotient t z d → IsExpression a chainage_on x (target.Rel name) (Ok (Rel name t))
distance_ok a chainage_on x t name n at d z lx lt f e l s ed g q =
    let P : ℕ → Type 0 = λ k. (pos (at * k) +ℤ z ≡ pos n) × IsQuotient t z k in
    let r = subst P ed (g, q) in
    expression_ok a chainage_on x (target.Rel name) (Rel name t) (stands chainage_on name at s) f (distance_expressed a chainage_on x t name n at z lx lt e l s r.0 r.1)

-- ---- a proportion

pub proportion_expressed : (a : Alignment) (chainage_on : Name → Option ℕ) (x p : Fraction) (n : ℕ) → IsSound a → IsLowest x → IsLowest p → x.num ≡ pos n → n ≤ length a.course * x.den → IsQuotient p (pos n) (x.den * length a.course) → Expresses a chainage_on x target.Int (Int p)
proportion_expressed a chainage_on x p n s lx lp e l q =
    let w : 0 < x.den * length a.course = mul-pos lx.positive s.positive in
    let k = natural_quotient p n (x.den * length a.course) w q in
    let m : n * p.den ≤ length a.course * x.den * p.den = mul-le-mul_right p.den l in
    let v = k.1 in
    let b : unsigned_abs p.num * (x.den * length a.course) ≤ p.den * (x.den * length a.course) = omega arith in
    record {
      method = refl;
      lowest = lp;
      located = (n, e, (unsigned_abs p.num, k.0, le_of_mul-le-mul_right b w, lx.positive, sym k.1 ∙ omega arith));
    }

pub proportion_found : (a : Alignment) (chainage_on : Name → Option ℕ) (x p : Fraction) (n d len : ℕ) → IsSound a → IsLowest x → IsLowest p → chainage_fault (length a.course) x ≡ None → x.num ≡ pos n → n ≤ length a.course * x.den → x.den ≤ 10 ^ 16 → d ≡ x.den → len ≡ length a.course → IsQuotient p (to_z w128 n) (d * len) → IsExpression a chainage_on x target.Int (Ok (Int p))
proportion_found a chainage_on x p n d len s lx lp f e l fine ed el q =
    let m : length a.course * x.den ≤ 10_000_000_000 * 10_000_000_000_000_000 = mul-le (length a.course) x.den 10_000_000_000 10_000_000_000_000_000 s.longest (omega arith) in
    let given : to_z w128 n ≡ pos n = to_z_pos w128 n (omega arith) in
    let r : IsQuotient p (pos n) (d * len) = rw given at q in
    let P : ℕ → ℕ → Type 0 = λ b c. IsQuotient p (pos n) (b * c) in
    expression_ok a chainage_on x target.Int (Int p) refl f (proportion_expressed a chainage_on x p n s lx lp e l (subst (λ (c : ℕ). P x.den c) el (subst (λ (b : ℕ). P b len) ed r)))
