-- The texts of methods, targets and position expressions.
use Rattle.std.specs.Prelude.{◌≡◌, ℕ, ℤ, pos, ◌≤◌, ◌==◌, ◌||◌, Bool, IsTrue, List, ◌∷◌, ◌++◌, take, drop, if◌then◌else◌, codes}
use Rattle.std.specs.List.{position_or_len}
use Rattle.std.specs.Fmt.{decimal}
use Rattle.std.specs.Str.Parse.{IsNumeral, digits_value}
use Rattle.lrs_measure.specs.Fraction.{Fraction, IsLowest, IsQuotient}
use Rattle.lrs_measure.specs.Numerals.{IsSigned, signed_value, IsFractionText, numerator_text, denominator_text}
use Rattle.lrs_measure.specs.FractionTexts.{fraction_text, signed_text}
use Rattle.lrs_measure.specs.Limits.{longest_route, greatest_measure}
use Rattle.lrs_position.specs.declared.expression.Expr.{Expr}
use Rattle.lrs_position.specs.declared.expression.Expr.TheVariants as expression
use Rattle.lrs_position.specs.declared.expression.Method.{Method}
use Rattle.lrs_position.specs.declared.expression.Method.TheVariants as method
use Rattle.lrs_position.specs.declared.expression.Target.{Target}
use Rattle.lrs_position.specs.declared.expression.Target.TheVariants as target
use Rattle.lrs_position.specs.Names.{is_referent_name}
use Rattle.lrs_position.specs.Expressions.{greatest_denominator, is_negative}

abbrev pub method_text : Method → List ℕ
method_text (method.Abs) = codes "abs"
method_text (method.Rel) = codes "rel"
method_text (method.Int) = codes "int"

abbrev pub target_text : Target → List ℕ
target_text (target.Abs) = codes "abs"
target_text (target.Rel name) = codes "rel:" ++ name
target_text (target.Int) = codes "int"

-- a target that names a referent does so by a name
abbrev pub IsNamed : Target → Type 0
IsNamed (target.Abs) = Unit {0}
IsNamed (target.Rel name) = IsTrue (is_referent_name name)
IsNamed (target.Int) = Unit {0}

abbrev pub is_sign : ℕ → Bool
is_sign byte = (byte == 43) || (byte == 45)

-- what stands before the first sign, and from it on
abbrev pub name_text : List ℕ → List ℕ
name_text text = take (position_or_len is_sign text) text

abbrev pub distance_text : List ℕ → List ℕ
distance_text text = drop (position_or_len is_sign text) text

abbrev pub whole : ℤ → Fraction
whole n = record { num = n; den = 1 }

-- digits of a value of at most 100,000,000,000 state that measure
pub record StatesMeasure (text : List ℕ) (m : Fraction) : Type 0 where
  pub digits : IsNumeral 10 text
  pub limit : digits_value 10 text ≤ greatest_measure
  pub value : m ≡ whole (pos (digits_value 10 text))

-- a referent's name, a sign and digits of a value of at most 10,000,000,000 state that distance from the referent
pub record StatesDistance (text name : List ℕ) (t : Fraction) : Type 0 where
  pub referent : name ≡ name_text text
  pub alphabet : IsTrue (is_referent_name name)
  pub signed : IsSigned (distance_text text)
  pub limit : digits_value 10 (drop 1 (distance_text text)) ≤ longest_route
  pub value : t ≡ whole (signed_value (distance_text text))

-- digits, a slash and digits, both values at most 1,000,000, the second not 0 and the first not above it, state that proportion
pub record StatesProportion (text : List ℕ) (p : Fraction) : Type 0 where
  pub fraction : IsFractionText greatest_denominator text
  pub at_most_whole : digits_value 10 (numerator_text text) ≤ digits_value 10 (denominator_text text)
  pub value : IsQuotient p (pos (digits_value 10 (numerator_text text))) (digits_value 10 (denominator_text text))
  pub lowest : IsLowest p

-- A text states an expression by a method.
abbrev pub States : Method → List ℕ → Expr → Type 0
States (method.Abs) text (expression.Abs m) = StatesMeasure text m
States (method.Rel) text (expression.Rel name t) = StatesDistance text name t
States (method.Int) text (expression.Int p) = StatesProportion text p
States _ text e = ⊥

-- How an expression is printed: a measure as n or n/d; a referent's name, a sign and n or n/d; a proportion always as n/d.
abbrev pub expression_text : Expr → List ℕ
expression_text (expression.Abs m) = fraction_text m
expression_text (expression.Rel name t) = name ++ (if is_negative t.num then fraction_text t else 43 ∷ fraction_text t)
expression_text (expression.Int p) = signed_text p.num ++ 47 ∷ decimal p.den
