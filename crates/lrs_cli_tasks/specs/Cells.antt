-- What is written of a CSV text byte by byte, where each of its cells is written as text.
use Rattle.std.specs.Prelude.{ℕ, ◌==◌, ◌||◌, Bool, true, false, not, [], ◌∷◌, ◌++◌}
use Rattle.lrs_machine.specs.Lines.{Text}

-- a comma, or the end of a line
abbrev pub is_edge : ℕ → Bool
is_edge byte = (byte == 44) || (byte == 10)

-- the end of a cell that is open
abbrev pub close_of : Bool → Text
close_of true = 34 ∷ 34 ∷ 34 ∷ []
close_of false = []

-- a byte: behind the end of the open cell, where it is an edge, and else behind the beginning of a cell, where none is open
abbrev pub with_marks : Bool → Bool → ℕ → Text
with_marks true true byte = 34 ∷ 34 ∷ 34 ∷ byte ∷ []
with_marks true false byte = byte ∷ []
with_marks false true byte = byte ∷ []
with_marks false false byte = 34 ∷ 61 ∷ 34 ∷ 34 ∷ byte ∷ []

-- a text, each cell of it with its marks; whether a cell is open before it
abbrev pub marked : Bool → Text → Text
marked is_open [] = close_of is_open
marked is_open (byte ∷ rest) = with_marks is_open (is_edge byte) byte ++ marked (not (is_edge byte)) rest
