-- Signed numbers and fractions as text: digits with leading zeros, of any length.
use Rattle.std.specs.Prelude.{ℕ, ℤ, pos, neg_ℤ, ◌<◌, ◌≤◌, ◌==◌, ◌||◌, Bool, false, IsTrue, List, [], ◌∷◌, drop, if◌then◌else◌}
use Rattle.std.specs.List.{before_first, after_first}
use Rattle.std.specs.Str.Parse.{IsNumeral, digits_value}

-- whether a text begins with `+` or `-`
abbrev pub has_sign : List ℕ → Bool
has_sign [] = false
has_sign (byte ∷ rest) = (byte == 43) || (byte == 45)

-- a sign and digits
pub record IsSigned (text : List ℕ) : Type 0 where
  pub sign : IsTrue (has_sign text)
  pub digits : IsNumeral 10 (drop 1 text)

-- the number that they write
abbrev pub signed_value : List ℕ → ℤ
signed_value [] = pos 0
signed_value (byte ∷ digits) = if byte == 45 then neg_ℤ (pos (digits_value 10 digits)) else pos (digits_value 10 digits)

-- what stands before the slash, and behind it
abbrev pub numerator_text : List ℕ → List ℕ
numerator_text text = before_first (λ byte. byte == 47) text

abbrev pub denominator_text : List ℕ → List ℕ
denominator_text text = after_first (λ byte. byte == 47) text

-- digits, a slash and digits, both numbers at most max, and the second not 0
pub record IsFractionText (max : ℕ) (text : List ℕ) : Type 0 where
  pub numerator : IsNumeral 10 (numerator_text text)
  pub denominator : IsNumeral 10 (denominator_text text)
  pub numerator_fits : digits_value 10 (numerator_text text) ≤ max
  pub denominator_fits : digits_value 10 (denominator_text text) ≤ max
  pub not_zero : 0 < digits_value 10 (denominator_text text)
