use Rattle.std.proofs.Common.{ℕ, zero, suc, ◌≡◌, ◌+◌, ◌-◌, ◌*◌, ◌/◌, ◌%◌, ◌^◌, ◌<◌, ◌≤◌, min, ◌∙◌, ap, refl, arith, ℤ, pos, negsuc, ◌+ℤ◌, ◌≤ℤ◌, unsigned_abs, ⊎_elim, Bool, true, false, cond, nat_le, length, Option, Some, None, Result, Ok, Err}
use Rattle.std.specs.Option.{ok_or, option_and_then}
use Rattle.std.specs.Result.{IfOk}
use Rattle.std.proofs.Math.Nat.{div-add-mod', le_trans, le_of_dvd, mul-le-mul_right}
use Rattle.std.proofs.lemmas.Nat.{mul-le, mod_below}
use Rattle.std.proofs.lemmas.Int.{ints}
use Rattle.std.proofs.lemmas.Bool.{ltb-false, cases_lt}
use Rattle.std.proofs.lemmas.Option.{cond_some}
use Rattle.lrs_measure.specs.Fraction.{Fraction}
use Rattle.lrs_measure.specs.Texts.{Name}
use Rattle.lrs_measure.proofs.Lowest.{den_divides}
use Rattle.lrs_element.specs.Marks.{last_mark}
use Rattle.lrs_position.specs.declared.expression.Expr.{Expr}
use Rattle.lrs_position.specs.declared.expression.Expr.TheVariants.{Abs, Rel, Int}
use Rattle.lrs_position.specs.declared.location.PlaceFault.{PlaceFault}
use Rattle.lrs_position.specs.declared.location.PlaceFault.TheVariants.{NoRef, TooFine, OffRoute}
use Rattle.lrs_position.specs.Locations.{Alignment, located, located_or_fault, lacks_referent, is_too_fine, at_measure, at_proportion, within}
use Rattle.lrs_position.specs.Translations.{number_of, IsAnswer}
use Rattle.lrs_position.proofs.Line.{chainage_at-den}
use Rattle.lrs_position.proofs.Located.{IsSound, located-sound, Locates-within, located_within}
use Rattle.lrs_position.proofs.Answering.{found_value}

-- ---- how fine a chainage is

found_fine : (b c : Bool) (o : Option (ℕ × ℕ)) (x : Fraction) → IsAnswer (cond b (Err NoRef) (cond c (Err TooFine) (ok_or o OffRoute))) (Ok x) → c ≡ false
found_fine true c o x h = absurd (cc h)
found_fine false true o x h = absurd (cc h)
found_fine false false o x h = refl

measure_den : (a : Alignment) (num : ℤ) (den : ℕ) (y : ℕ × ℕ) → IsSound a → den ≤ 10 ^ 16 → at_measure a.marks num den ≡ Some y → y.1 ≤ 10 ^ 27
measure_den a (pos n) den y s d h =
    let l = chainage_at-den a.marks n den y s.climb h in
    let m : den * (last_mark a.marks).measure ≤ 10_000_000_000_000_000 * 100_000_000_000 = mul-le den (last_mark a.marks).measure 10_000_000_000_000_000 100_000_000_000 (omega arith) s.highest in
    omega arith
measure_den a (negsuc n) den y s d h = absurd (cc h)

distance_den : (len den : ℕ) (t : ℤ) (o : Option ℕ) (y : ℕ × ℕ) → option_and_then (λ at. within len (pos (at * den) +ℤ t) den) o ≡ Some y → den ≡ y.1
distance_den len den t None y h = absurd (cc h)
distance_den len den t (Some at) y h = (located_within len (pos (at * den) +ℤ t) den y h).1

proportion_den : (len den : ℕ) (num : ℤ) (y : ℕ × ℕ) → at_proportion len num den ≡ Some y → den ≡ y.1
proportion_den len den (pos n) y h = let c = cond_some (nat_le n den) (n * len, den) y h in ap (λ (p : ℕ × ℕ). p.1) c.1
proportion_den len den (negsuc n) y h = absurd (cc h)

located_fine : (a : Alignment) (chainage_on : Name → Option ℕ) (e : Expr) (y : ℕ × ℕ) → IsSound a → is_too_fine e ≡ false → located a chainage_on e ≡ Some y → y.1 ≤ 10 ^ 27
located_fine a chainage_on (Abs m) y s f l = measure_den a m.num m.den y s (ltb-false _ _ f) l
located_fine a chainage_on (Rel name t) y s f l = let d = distance_den (length a.course) t.den t.num (chainage_on name) y l in let b : t.den ≤ 10 ^ 16 = ltb-false _ _ f in omega arith
located_fine a chainage_on (Int p) y s f l = let d = proportion_den (length a.course) p.den p.num y l in let b : p.den ≤ 10 ^ 21 = ltb-false _ _ f in omega arith

-- the denominator of a chainage that is located
pub den_of : (a : Alignment) (chainage_on : Name → Option ℕ) (e : Expr) (r : Result Fraction PlaceFault) → IsSound a → 0 < (number_of e).den → IsAnswer (located_or_fault a chainage_on e) r → IfOk r (λ x. x.den ≤ 10 ^ 27)
den_of a chainage_on e (Err f) s dp h = tt
den_of a chainage_on e (Ok x) s dp h =
    let f = found_value (lacks_referent chainage_on e) (is_too_fine e) (located a chainage_on e) x h in
    let fine = found_fine (lacks_referent chainage_on e) (is_too_fine e) (located a chainage_on e) x h in
    let yp = (Locates-within a chainage_on e f.0 s dp (located-sound a chainage_on e f.0 s dp f.1)).0 in
    le_trans (le_of_dvd yp (den_divides x (pos f.0.0) f.0.1 f.3 f.2)) (located_fine a chainage_on e f.0 s fine f.1)

-- ---- a place within an entry

-- a chainage stands in its entry, from its start to its end
pub in_entry : (len n d : ℕ) → 0 < d → 0 < len → n ≤ len * d → (min (n / d) (len - 1) < len) × (min (n / d) (len - 1) * d ≤ n) × (n - min (n / d) (len - 1) * d ≤ d)
in_entry len n d dp lp h = ⊎_elim (inside) (at_end) (cases_lt (n / d) len)
  where
    e : n / d * d + n % d ≡ n
    e = div-add-mod' n d

    inside : n / d < len → (min (n / d) (len - 1) < len) × (min (n / d) (len - 1) * d ≤ n) × (n - min (n / d) (len - 1) * d ≤ d)
    inside l = let s : min (n / d) (len - 1) ≡ n / d = omega arith in let m = mod_below n d dp in rw s (l, omega (arith, e), omega (arith, e))

    at_end : len ≤ n / d → (min (n / d) (len - 1) < len) × (min (n / d) (len - 1) * d ≤ n) × (n - min (n / d) (len - 1) * d ≤ d)
    at_end l =
        let s : min (n / d) (len - 1) ≡ len - 1 = omega arith in
        let split : len ≡ (len - 1) + 1 = omega arith in
        let g : len * d ≡ (len - 1) * d + d = ap (λ (k : ℕ). k * d) split ∙ omega arith in
        rw s (omega arith, (let b : len * d ≤ n / d * d = mul-le-mul_right d l in omega (arith, e)), omega arith)

-- a distance is at most a millimetre behind the start of the one that it stands in
pub cell_inside : (len n d at : ℕ) → at ≡ min (n / d) (len - 1) → 0 < len → n ≤ len * d → n - at * d ≤ d
cell_inside len n zero at e l h = let z : len * 0 ≡ 0 = omega arith in omega arith
cell_inside len n (suc d) at e l h = rw e (in_entry len n (suc d) (omega arith) l h).2

-- a number from 0 to a whole is a natural up to it
pub size_below : (z : ℤ) (m : ℕ) → pos 0 ≤ℤ z → z ≤ℤ pos m → unsigned_abs z ≤ m
size_below (pos n) m f h = omega (arith, ints)
size_below (negsuc n) m f h = absurd (omega (arith, ints))
