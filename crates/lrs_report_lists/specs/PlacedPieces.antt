-- The pieces of a course, each with the chainage at which it begins.
use Rattle.std.specs.Prelude.{ℕ, ◌+◌, List, [], ◌∷◌}
use Rattle.lrs_element.specs.declared.link.Ground.{Ground}
use Rattle.lrs_element.specs.declared.link.Piece.{Piece}
use Rattle.lrs_element.specs.Pieces.{piece_len}
use Rattle.lrs_report_lists.specs.CoursePieces.{pieces_of}

-- pieces one behind the other, from a chainage on
abbrev pub placed_from : ℕ → List Piece → List (ℕ × Piece)
placed_from at [] = []
placed_from at (p ∷ ps) = (at, p) ∷ placed_from (at + piece_len p) ps

-- The pieces of a course, each with the chainage at which it begins.
abbrev pub placed_pieces : List Ground → List (ℕ × Piece)
placed_pieces course = placed_from 0 (pieces_of course)
