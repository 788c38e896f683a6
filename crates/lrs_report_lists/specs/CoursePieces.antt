-- The pieces of a course: its maximal runs of millimetres that go on from each other, which are its fewest pieces.
use Rattle.std.specs.Prelude.{◌+◌, if◌then◌else◌, List, [], ◌∷◌}
use Rattle.lrs_element.specs.declared.link.Ground.{Ground}
use Rattle.lrs_element.specs.declared.link.Piece.{Piece}
use Rattle.lrs_element.specs.Course.{continues}
use Rattle.lrs_element.specs.Pieces.{ground_of}

-- a millimetre as a piece
abbrev pub piece_at : Ground → Piece
piece_at g = record { link = g.link; from = g.mm; to = g.mm + 1; forward = g.forward }

-- a piece with the millimetre before it, in the direction in which it is run
abbrev pub lengthened : Ground → Piece → Piece
lengthened g p = if g.forward then record { link = g.link; from = g.mm; to = p.to; forward = g.forward } else record { link = g.link; from = p.from; to = g.mm + 1; forward = g.forward }

-- pieces with a millimetre before them: the first piece has it too if it goes on from it
abbrev pub led_by : Ground → List Piece → List Piece
led_by g [] = piece_at g ∷ []
led_by g (p ∷ ps) = if continues g (ground_of p 0) then lengthened g p ∷ ps else piece_at g ∷ p ∷ ps

-- The pieces of a course.
abbrev pub pieces_of : List Ground → List Piece
pieces_of [] = []
pieces_of (g ∷ rest) = led_by g (pieces_of rest)
