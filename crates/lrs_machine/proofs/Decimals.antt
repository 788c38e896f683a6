-- The decimals of numbers in their limits: told apart, not empty, and of digits alone.
use Rattle.std.proofs.Common.{◌≡◌, ℕ, ◌<◌, ◌≤◌, ◌^◌, Bool, true, false, List, [], ◌∷◌, ◌++◌, length, refl, ap, arith}
use Rattle.std.specs.Prelude.{nat_le, ℤ, pos, negsuc, suc, unsigned_abs}
use Rattle.std.specs.List.{list_all}
use Rattle.std.specs.Char.{is_ascii_digit}
use Rattle.std.specs.Fmt.{decimal}
use Rattle.std.specs.Str.Parse.{AllDigits}
use Rattle.std.proofs.lemmas.Bool.{and_parts, and_from}
use Rattle.std.proofs.lemmas.Bool.Decides.{nat_tests}
use Rattle.std.proofs.lemmas.Fmt.{decimal_injective, decimal_is_IsNumeral, decimal_nonempty}
use Rattle.std.proofs.lemmas.Str.Parse.{digit_from_value}
use Rattle.lrs_measure.specs.Lists.{is_from_to}
use Rattle.lrs_machine.specs.Lines.{Text, signed_text}
use Rattle.lrs_machine.proofs.Joined.{Lacks, is_other, lacks_from, split_at_first, starts_with, differ}

-- A number of at most eight bytes.
pub record IsSmall (n : ℕ) : Type 0 where
  pub bound : n < 2 ^ 64

-- a number is small below a small one
pub small_below : (most n : ℕ) → nat_le n most ≡ true → IsSmall most → IsSmall n
small_below most n h small = record { bound = grind (arith, nat_tests, small.bound) }

-- and so between two of which the upper one is small
pub small_from_to : (low high n : ℕ) → is_from_to low high n ≡ true → IsSmall high → IsSmall n
small_from_to low high n h small = small_below high n (and_parts (nat_le low n) (nat_le n high) h).1 small

-- the bytes of the digits pass the test of digits
digit_passes : (c : ℕ) → 48 ≤ c → c ≤ 57 → is_ascii_digit c ≡ true
digit_passes c low high = grind (arith, nat_tests)

-- a text of digits passes it
digits_pass : (ds : List ℕ) → AllDigits 10 ds → list_all is_ascii_digit ds ≡ true
digits_pass [] h = refl
digits_pass (c ∷ cs) h = let digit = digit_from_value c h.0 in and_from (is_ascii_digit c) (list_all is_ascii_digit cs) (digit_passes c (omega arith) (omega arith)) (digits_pass cs h.1)

-- a decimal is made of digits
pub decimal_passes : (n : ℕ) → IsSmall n → list_all is_ascii_digit (decimal n) ≡ true
decimal_passes n small = digits_pass (decimal n) (decimal_is_IsNumeral n small.bound).0.1

-- a decimal lacks what is not a digit
pub lacks-decimal : (c n : ℕ) → is_ascii_digit c ≡ false → IsSmall n → Lacks c (decimal n)
lacks-decimal c n u small = lacks_from is_ascii_digit c (decimal n) u (decimal_passes n small)

-- equal decimals come only of equal numbers
pub decimals_apart : (m n : ℕ) → IsSmall m → IsSmall n → decimal m ≡ decimal n → m ≡ n
decimals_apart m n p q e = decimal_injective m n p.bound q.bound e

-- equal texts of signed numbers come only of equal numbers
pub signed_apart : (s t : ℤ) → IsSmall (unsigned_abs s) → IsSmall (unsigned_abs t) → signed_text s ≡ signed_text t → s ≡ t
signed_apart (pos m) (pos n) p q e = let digits : decimal m ≡ decimal n = cc in ap pos (decimals_apart m n p q digits)
signed_apart (pos m) (negsuc n) p q e = absurd (differ (starts_with 43) (signed_text (pos m)) (signed_text (negsuc n)) e refl refl)
signed_apart (negsuc m) (pos n) p q e = absurd (differ (starts_with 45) (signed_text (negsuc m)) (signed_text (pos n)) e refl refl)
signed_apart (negsuc m) (negsuc n) p q e =
    let digits : decimal (suc m) ≡ decimal (suc n) = cc in
    let next : suc m ≡ suc n = decimals_apart (suc m) (suc n) p q digits in
    let same : m ≡ n = omega arith in
    ap negsuc same

-- the sign ends a text of other bytes
pub named_apart : (test : ℕ → Bool) (name other : Text) (s t : ℤ) → test 43 ≡ false → test 45 ≡ false → list_all test name ≡ true → list_all test other ≡ true → name ++ signed_text s ≡ other ++ signed_text t
    → (name ≡ other) × (signed_text s ≡ signed_text t)
named_apart test name other (pos m) (pos n) plus minus p q e = split_at_first test name other 43 43 (decimal m) (decimal n) p q plus plus e
named_apart test name other (pos m) (negsuc n) plus minus p q e = split_at_first test name other 43 45 (decimal m) (decimal (suc n)) p q plus minus e
named_apart test name other (negsuc m) (pos n) plus minus p q e = split_at_first test name other 45 43 (decimal (suc m)) (decimal n) p q minus plus e
named_apart test name other (negsuc m) (negsuc n) plus minus p q e = split_at_first test name other 45 45 (decimal (suc m)) (decimal (suc n)) p q minus minus e

-- the text of a signed number lacks what is neither a digit nor a sign
pub lacks-signed : (c : ℕ) (s : ℤ) → is_ascii_digit c ≡ false → is_other c 43 ≡ true → is_other c 45 ≡ true → IsSmall (unsigned_abs s) → Lacks c (signed_text s)
lacks-signed c (pos n) u plus minus small = and_from (is_other c 43) (list_all (is_other c) (decimal n)) plus (lacks-decimal c n u small)
lacks-signed c (negsuc n) u plus minus small = and_from (is_other c 45) (list_all (is_other c) (decimal (suc n))) minus (lacks-decimal c (suc n) u small)

-- a decimal has a digit
pub decimal_not_empty : (n : ℕ) → IsSmall n → decimal n ≡ [] → ⊥
decimal_not_empty n small e = let long = decimal_nonempty n small.bound in let none : length (decimal n) ≡ 0 = ap length e in omega arith
