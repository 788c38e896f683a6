-- How long the first line of a text is, with its end.
use Rattle.std.specs.Prelude.{ℕ, suc, ◌==◌, [], ◌∷◌, if◌then◌else◌}
use Rattle.lrs_machine.specs.Lines.{Text}

abbrev pub line_length : Text → ℕ
line_length [] = 0
line_length (byte ∷ text) = if byte == 10 then 1 else suc (line_length text)
