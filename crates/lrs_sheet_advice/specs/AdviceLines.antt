-- Lines of advice: printable ASCII, each with its end; and how bytes that are not printable are shown.
use Rattle.std.specs.Prelude.{ℕ, ◌+◌, ◌-◌, ◌/◌, ◌%◌, ◌&&◌, Bool, if◌then◌else◌, nat_le, nat_lt, IsTrue, List, [], ◌∷◌, ◌++◌, Option}
use Rattle.std.specs.List.{flat_map, list_all}
use Rattle.std.specs.Io.KnownBytes.{Appends}
use Rattle.lrs_machine.specs.Lines.{Text}

-- a byte from space to tilde
abbrev pub is_printable : ℕ → Bool
is_printable byte = nat_le 32 byte && nat_le byte 126

abbrev pub is_printable_text : Text → Bool
is_printable_text text = list_all is_printable text

-- a digit of a byte's number, 0 to 9 and a to f
abbrev pub hex_digit : ℕ → ℕ
hex_digit value = if nat_lt value 10 then 48 + value else 97 + (value - 10)

-- a byte by its number, as `\x0a`
abbrev pub number_text : ℕ → Text
number_text byte = 92 ∷ 120 ∷ hex_digit (byte / 16) ∷ hex_digit (byte % 16) ∷ []

-- a byte as it is shown
abbrev pub shown_byte : ℕ → Text
shown_byte byte = if is_printable byte then byte ∷ [] else number_text byte

-- a text as it is shown
abbrev pub shown : Text → Text
shown text = flat_map shown_byte text

-- the lines, each with its end
abbrev pub lines_text : List Text → Text
lines_text lines = flat_map (λ line. line ++ 10 ∷ []) lines

-- This line was written with its end, behind what was there, and it has no control byte.
abbrev pub WritesLine : Text → Option Text → Option Text → Type 0
WritesLine line old new = IsTrue (is_printable_text line) × Appends old new (line ++ 10 ∷ [])

-- One line was written.
abbrev pub WritesOneLine : Option Text → Option Text → Type 0
WritesOneLine old new = (line : Text) × WritesLine line old new
