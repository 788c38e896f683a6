-- The alphabet of keys.
use Rattle.std.specs.Prelude.{ℕ, ◌==◌, ◌||◌, ◌&&◌, not, Bool, List}
use Rattle.lrs_measure.specs.Alphabets.{is_word_byte, is_text, is_lone_dash}

-- a byte of `A-Za-z0-9.:_-`
abbrev pub is_key_byte : ℕ → Bool
is_key_byte byte = is_word_byte byte || (byte == 58)

-- 1 to 40 such bytes, not `-` alone
abbrev pub is_key : List ℕ → Bool
is_key text = is_text 40 is_key_byte text && not (is_lone_dash text)
