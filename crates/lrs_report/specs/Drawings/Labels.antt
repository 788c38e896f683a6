-- Labels: texts beside what is drawn. A label is written where it fits behind those before it, and else left out.
use Rattle.std.specs.Prelude.{ℕ, ◌+◌, ◌*◌, Bool, true, ◌&&◌, nat_le, if◌then◌else◌, List, [], ◌∷◌, ◌++◌, length, codes}
use Rattle.std.specs.Fmt.{decimal}
use Rattle.lrs_element.specs.declared.marks.Mark.{Mark}
use Rattle.lrs_position.specs.declared.route.Referent.{Referent}
use Rattle.lrs_machine.specs.Lines.{Text}
use Rattle.lrs_report.specs.declared.diagrams.diagram.DrawnPiece.{DrawnPiece}
use Rattle.lrs_report.specs.declared.diagrams.diagram.DrawnRow.{DrawnRow}
use Rattle.lrs_report.specs.declared.diagrams.labels.LabelPlace.{LabelPlace}
use Rattle.lrs_report.specs.declared.diagrams.scale.Scale.{Scale}
use Rattle.lrs_report.specs.Drawings.Scales.{has_place, x_at}
use Rattle.lrs_report.specs.Drawings.Shapes.{direction_text, value_text}

-- how much room a label of this many characters takes: 60 each, and 20 at both ends
abbrev pub room_for : ℕ → ℕ
room_for characters = 40 + 60 * characters

-- the last place of a label that may go on behind what it names
abbrev pub right_limit : ℕ
right_limit = 11_960

-- whether a label has its place, if the row of labels is free from there on
abbrev pub fits : ℕ → LabelPlace → Bool
fits free p = p.is_wanted && (nat_le free p.start && nat_le p.end p.limit)

-- the text of a label
abbrev pub label_text : ℕ → Text → Text
label_text start text = (codes "<text x='" ++ decimal start ++ codes "'>") ++ text ++ codes "</text>\n"

-- ... if it fits
abbrev pub text_if : ℕ → LabelPlace → Text → Text
text_if free p text = if fits free p then label_text p.start text else []

-- from where on the row is free behind it
abbrev pub next_free : ℕ → LabelPlace → ℕ
next_free free p = if fits free p then p.end else free

-- The labels of a list, in its order: each that fits behind those before it.
abbrev pub labels_text : {L : Type 0} → (L → LabelPlace) → (L → Text) → ℕ → List L → Text
labels_text place text free [] = []
labels_text place text free (l ∷ ls) = text_if free (place l) (text l) ++ labels_text place text (next_free free (place l)) ls

-- ---- which label has which place

-- a value stands in its stretch, or behind its point
abbrev pub row_place : Scale → DrawnRow → LabelPlace
row_place s r = record {
  is_wanted = true;
  start = x_at s r.from;
  end = x_at s r.from + room_for (length (value_text r.value));
  limit = if r.is_point then right_limit else x_at s r.to;
}

-- a measure stands behind its mark
abbrev pub mark_place : Scale → Mark → LabelPlace
mark_place s m = record { is_wanted = has_place s m.chainage; start = x_at s m.chainage; end = x_at s m.chainage + room_for 12; limit = right_limit }

-- a referent's name stands behind it
abbrev pub referent_place : Scale → Referent → LabelPlace
referent_place s r = record { is_wanted = has_place s r.at; start = x_at s r.at; end = x_at s r.at + room_for (length r.name); limit = right_limit }

-- a link's number stands in its piece
abbrev pub piece_place : Scale → DrawnPiece → LabelPlace
piece_place s p = record { is_wanted = true; start = x_at s p.from; end = x_at s p.from + room_for 8; limit = x_at s p.to }

-- the number of a link, and whether the route runs along it or against it
abbrev pub piece_label : DrawnPiece → Text
piece_label p = decimal p.piece.link ++ codes " " ++ direction_text p.piece.forward
