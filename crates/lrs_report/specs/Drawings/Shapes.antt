-- What is drawn along a line: the rows of assets, the pieces of links, and the ticks of marks and referents.
use Rattle.std.specs.Prelude.{ℕ, Bool, ◌&&◌, nat_lt, if◌then◌else◌, List, [], ◌∷◌, ◌++◌, codes, Option, None, Some}
use Rattle.std.specs.Fmt.{decimal}
use Rattle.lrs_measure.specs.Texts.{Name}
use Rattle.lrs_element.specs.declared.marks.Mark.{Mark}
use Rattle.lrs_position.specs.declared.route.Referent.{Referent}
use Rattle.lrs_machine.specs.Lines.{Text}
use Rattle.lrs_report.specs.declared.diagrams.diagram.DrawnPiece.{DrawnPiece}
use Rattle.lrs_report.specs.declared.diagrams.diagram.DrawnRow.{DrawnRow}
use Rattle.lrs_report.specs.declared.diagrams.scale.Scale.{Scale}
use Rattle.lrs_report.specs.Drawings.Scales.{has_place, width_of, x_at}

-- a value, or a dash where there is none
abbrev pub value_text : Option Name → Text
value_text None = codes "-"
value_text (Some value) = value

-- a tick over the band at a point
abbrev pub tick_start : ℕ → Text
tick_start x = codes "<path d='M" ++ decimal x ++ codes " -60v120'><title>"

-- a box along the band, as a thick line
abbrev pub box_start : ℕ → ℕ → Text
box_start x width = codes "<path d='M" ++ decimal x ++ codes " 0h" ++ decimal width ++ codes "'><title>"

-- a point stands at its chainage, and a stretch runs from its chainage to its chainage, both scaled
abbrev pub row_start : Scale → DrawnRow → Text
row_start s r = if r.is_point then tick_start (x_at s r.from) else box_start (x_at s r.from) (width_of s r.from r.to)

-- the asset of a row and its value, which browsers show where the pointer rests
abbrev pub row_title : DrawnRow → Text
row_title r = (decimal r.asset ++ codes ": ") ++ value_text r.value ++ codes "</title></path>\n"

-- A row, drawn.
abbrev pub row_text : Scale → DrawnRow → Text
row_text s r = row_start s r ++ row_title r

-- whether a route runs along a link or against it
abbrev pub direction_text : Bool → Text
direction_text forward = if forward then codes "+" else codes "-"

abbrev pub link_from : ℕ → ℕ → Text
link_from link from = decimal link ++ codes ":" ++ decimal from ++ codes ":"

abbrev pub link_to : ℕ → Bool → Text
link_to to forward = decimal to ++ codes ":" ++ direction_text forward ++ codes "</title></path>\n"

-- a piece, as an edit sheet states it
abbrev pub piece_title : DrawnPiece → Text
piece_title p = link_from p.piece.link p.piece.from ++ link_to p.piece.to p.piece.forward

-- the box of a piece
abbrev pub link_text : Scale → DrawnPiece → Text
link_text s p = box_start (x_at s p.from) (width_of s p.from p.to) ++ piece_title p

-- ... where the piece has a millimetre of the stretch that is shown
abbrev pub piece_text : Scale → DrawnPiece → Text
piece_text s p = if nat_lt p.from s.to && nat_lt s.from p.to then link_text s p else []

-- the tick of a mark, if it stands in the stretch
abbrev pub mark_text : Scale → Mark → Text
mark_text s m = if has_place s m.chainage then codes "<path d='M" ++ decimal (x_at s m.chainage) ++ codes " 280v60'/>\n" else []

-- the tick of a referent, if it stands in the stretch
abbrev pub referent_text : Scale → Referent → Text
referent_text s r = if has_place s r.at then codes "<path d='M" ++ decimal (x_at s r.at) ++ codes " 150v190'/>\n" else []
