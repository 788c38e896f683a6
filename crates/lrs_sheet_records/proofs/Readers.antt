-- What readers of sides, methods and positions need to know.
use Rattle.std.proofs.Common.{◌≡◌, ℕ, zero, suc, ◌*◌, ◌<◌, ◌≤◌, Bool, true, false, [], ◌∷◌, length, Option, Some, None, drop, refl, sym, ap, ◌∙◌, arith, inl, inr}
use Rattle.std.specs.Prelude.{◌==◌, ◌&&◌, not, nat_le, ℤ, pos, neg_ℤ, unsigned_abs, if◌then◌else◌}
use Rattle.std.specs.Str.Parse.{digits_value}
use Rattle.std.proofs.Math.Nat.{le_trans, mul-le-mul_right, le_of_mul-le-mul_right}
use Rattle.std.proofs.lemmas.Nat.Gcd.{le_of_dvd}
use Rattle.std.proofs.lemmas.Bool.{and_from}
use Rattle.std.proofs.lemmas.Option.{none-some}
use Rattle.lrs_measure.specs.Numerals.{numerator_text, denominator_text, signed_value}
use Rattle.lrs_measure.proofs.Lowest.{den_divides}
use Rattle.lrs_measure.specs.Limits.{longest_route, greatest_measure}
use Rattle.lrs_element.proofs.LineLemmas.{natural_quotient}
use Rattle.lrs_position.specs.Expressions.{are_alike, greatest_denominator, is_entered, is_negative, same_method}
use Rattle.lrs_position.specs.Readings.{States, distance_text, method_text}
use Rattle.lrs_position.specs.declared.expression.Expr.{Expr}
use Rattle.lrs_position.specs.declared.expression.Expr.TheVariants.{Abs, Rel, Int}
use Rattle.lrs_position.specs.declared.expression.Method.{Method}
use Rattle.lrs_position.specs.declared.expression.Method.TheVariants as method
use Rattle.lrs_events.specs.Names.{side_text}
use Rattle.lrs_events.specs.declared.side.Side.{Side}
use Rattle.lrs_machine.specs.Lines.{Text}
use Rattle.lrs_machine.specs.declared.answer.Field.{Field}
use Rattle.lrs_sheet_records.proofs.Deciding.{at-most}
use Rattle.lrs_sheet_records.proofs.OneArgument.{one-method}
use Rattle.lrs_sheet_records.proofs.Said.{side-said, method-said, position-said, nothing-or-said}
use Rattle.lrs_sheet_records.specs.Shapes.{At, Fits, MethodName, OrNothing, PositionBy, RouteSide, Says, Shape}
use Rattle.lrs_sheet_records.specs.Verbs.{method_of, or_nothing}

-- no side is said where none is found
pub no-side-there : (texts : Field → Text) (text : Text) (o : Option Side) → ((s : Side) → text ≡ side_text s → o ≡ Some s) → o ≡ None → Fits texts (Some RouteSide) text → ⊥
no-side-there texts text o found none fits = let (s, is, said) = side-said texts text fits.0 fits.1 in none-some s (sym none ∙ found s said)

-- nor a method
pub no-method-there : (texts : Field → Text) (text : Text) (o : Option Method) → ((m : Method) → text ≡ method_text m → o ≡ Some m) → o ≡ None → Fits texts (Some MethodName) text → ⊥
no-method-there texts text o found none fits = let (m, is, said) = method-said texts text fits.0 fits.1 in none-some m (sym none ∙ found m said)

-- nor a position by a method
pub no-position-there : (texts : Field → Text) (by : Field) (text : Text) (m : Method) (o : Option Expr) → texts by ≡ method_text m → ((e : Expr) → States m text e → o ≡ Some e) → o ≡ None
    → Fits texts (Some (PositionBy by)) text → ⊥
no-position-there texts by text m o name found none fits =
    let (e, is, said) = position-said texts by text fits.0 fits.1 in
    none-some e (sym none ∙ found e (rw (one-method (texts by) said.0 m said.1 name) at said.2))

-- what is not there is nowhere, where its text is not empty
pub nothing-there : (texts : Field → Text) (shape : Shape) (text : Text) → (text ≡ [] → ⊥) → (Fits texts (Some shape) text → ⊥) → Fits texts (Some (OrNothing shape)) text → ⊥
nothing-there texts shape text full none fits = elim (nothing-or-said texts shape text fits.0 fits.1) [
  | inl empty ↦ full empty.1
  | inr said ↦ none (fits.0, said)
]

abs-neg : (v : ℕ) → unsigned_abs (neg_ℤ (pos v)) ≡ v
abs-neg zero = refl
abs-neg (suc v) = refl

signed-size : (digits : Text) → unsigned_abs (signed_value digits) ≡ digits_value 10 (drop 1 digits)
signed-size [] = refl
signed-size (byte ∷ digits) = by-sign (byte == 45)
  where
    by-sign : (b : Bool) → unsigned_abs (if b then neg_ℤ (pos (digits_value 10 digits)) else pos (digits_value 10 digits)) ≡ digits_value 10 digits
    by-sign true = abs-neg (digits_value 10 digits)
    by-sign false = refl

-- what is stated can be entered
pub stated-entered : (m : Method) (text : Text) (e : Expr) → States m text e → is_entered e ≡ true
stated-entered method.Abs text (Abs x) h = rw h.value (at-most (digits_value 10 text) greatest_measure h.limit)
stated-entered method.Abs text (Rel name t) h = absurd h
stated-entered method.Abs text (Int p) h = absurd h
stated-entered method.Rel text (Abs x) h = absurd h
stated-entered method.Rel text (Rel name t) h = rw h.value (at-most (unsigned_abs (signed_value (distance_text text))) longest_route (rw (signed-size (distance_text text)) h.limit))
stated-entered method.Rel text (Int p) h = absurd h
stated-entered method.Int text (Abs x) h = absurd h
stated-entered method.Int text (Rel name t) h = absurd h
stated-entered method.Int text (Int p) h =
    let n = digits_value 10 (numerator_text text) in
    let d = digits_value 10 (denominator_text text) in
    let some : 0 < d = h.fraction.not_zero in
    let (natural, product) = natural_quotient p n d some h.value in
    let divides = den_divides p (pos n) d h.lowest h.value in
    let den : p.den ≤ greatest_denominator = le_trans (le_of_dvd some divides) h.fraction.denominator_fits in
    let less : n * p.den ≤ d * p.den = mul-le-mul_right p.den h.at_most_whole in
    let times : unsigned_abs p.num * d ≤ p.den * d = omega (arith, less, product) in
    let num : unsigned_abs p.num ≤ p.den = le_of_mul-le-mul_right times some in
    let positive : not (is_negative p.num) ≡ true = ap (λ (z : ℤ). not (is_negative z)) natural in
    and_from (nat_le p.den greatest_denominator && not (is_negative p.num)) (nat_le (unsigned_abs p.num) p.den)
    (and_from (nat_le p.den greatest_denominator) (not (is_negative p.num)) (at-most p.den greatest_denominator den) positive)
    (at-most (unsigned_abs p.num) p.den num)

-- and is of the method
stated-method : (m : Method) (text : Text) (e : Expr) → States m text e → method_of e ≡ m
stated-method method.Abs text (Abs x) h = refl
stated-method method.Abs text (Rel name t) h = absurd h
stated-method method.Abs text (Int p) h = absurd h
stated-method method.Rel text (Abs x) h = absurd h
stated-method method.Rel text (Rel name t) h = refl
stated-method method.Rel text (Int p) h = absurd h
stated-method method.Int text (Abs x) h = absurd h
stated-method method.Int text (Rel name t) h = absurd h
stated-method method.Int text (Int p) h = refl

-- by a method's name
pub position-method : (texts : Field → Text) (by : Field) (text : Text) (m : Method) (e : Expr) → texts by ≡ method_text m → Says texts (PositionBy by) text (At e) → m ≡ method_of e
position-method texts by text m e name said = one-method (texts by) m said.0 name said.1 ∙ sym (stated-method said.0 text e said.2)

-- positions of one method
one-of-method : (e f : Expr) → method_of e ≡ method_of f → same_method e f ≡ true
one-of-method (Abs x) (Abs y) h = refl
one-of-method (Rel name t) (Rel other u) h = refl
one-of-method (Int p) (Int q) h = refl
one-of-method (Abs x) (Rel other u) h = cc
one-of-method (Abs x) (Int q) h = cc
one-of-method (Rel name t) (Abs y) h = cc
one-of-method (Rel name t) (Int q) h = cc
one-of-method (Int p) (Abs y) h = cc
one-of-method (Int p) (Rel other u) h = cc

-- ends by one method are alike
pub ends-alike-said : (texts : Field → Text) (by : Field) (from to : Text) (start : Expr) (end : Option Expr) → Says texts (PositionBy by) from (At start) → Says texts (OrNothing (PositionBy by)) to (or_nothing At end)
    → are_alike start end ≡ true
ends-alike-said texts by from to start None g h = refl
ends-alike-said texts by from to start (Some e) g h =
    one-of-method start e (stated-method g.0 from start g.2 ∙ one-method (texts by) g.0 h.0 g.1 h.1 ∙ sym (stated-method h.0 to e h.2))

pub empty-text : (text : Text) → length text ≡ 0 → text ≡ []
empty-text [] h = refl
empty-text (byte ∷ text) h = absurd (omega (arith, h))
