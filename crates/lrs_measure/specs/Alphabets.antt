-- The alphabets of names and keys: which bytes they are made of, and how many.
use Rattle.std.specs.Prelude.{ℕ, ◌==◌, ◌||◌, ◌&&◌, Bool, false, List, [], ◌∷◌, length, nat_le}
use Rattle.std.specs.List.{list_all}
use Rattle.std.specs.Char.{is_ascii_alphanumeric, is_ascii_uppercase, is_ascii_digit}

-- a byte of `A-Z0-9`
abbrev pub is_capital : ℕ → Bool
is_capital byte = is_ascii_uppercase byte || is_ascii_digit byte

-- a byte of `A-Za-z0-9._-`
abbrev pub is_word_byte : ℕ → Bool
is_word_byte byte = is_ascii_alphanumeric byte || (byte == 46) || (byte == 95) || (byte == 45)

-- 1 to most bytes
abbrev pub has_length : ℕ → List ℕ → Bool
has_length most text = nat_le 1 (length text) && nat_le (length text) most

-- 1 to most bytes that pass the test
abbrev pub is_text : ℕ → (ℕ → Bool) → List ℕ → Bool
is_text most test text = has_length most text && list_all test text

-- whether a text begins with a dash
abbrev pub has_dash_first : List ℕ → Bool
has_dash_first [] = false
has_dash_first (byte ∷ rest) = byte == 45

-- whether a text is a dash and nothing else
abbrev pub is_lone_dash : List ℕ → Bool
is_lone_dash [] = false
is_lone_dash (byte ∷ []) = byte == 45
is_lone_dash (byte ∷ next ∷ rest) = false
