-- Texts of files as a terminal can show them.
use Rattle.std.specs.Prelude.{ℕ, ◌&&◌, if◌then◌else◌, nat_le, map}
use Rattle.clap.specs.Words.{Text}

-- a byte from space to tilde, and for any other a question mark
abbrev pub shown_byte : ℕ → ℕ
shown_byte byte = if nat_le 32 byte && nat_le byte 126 then byte else 63

abbrev pub shown : Text → Text
shown text = map shown_byte text
