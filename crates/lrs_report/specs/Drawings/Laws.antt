-- Laws of diagrams.
use Rattle.std.specs.Prelude.{◌≡◌, ◌≤◌, ⊤, ℕ, Bool, true, not, nat_eq, if◌then◌else◌, List, [], ◌∷◌, map, IsTrue}
use Rattle.std.specs.List.{flat_map, list_all, list_any}
use Rattle.lrs_events.specs.Names.{is_class_name, is_value}
use Rattle.lrs_machine.specs.Lines.{Text}
use Rattle.lrs_position.specs.Names.{is_referent_name, is_route_name}
use Rattle.std.specs.Fmt.{decimal}
use Rattle.lrs_element.specs.declared.marks.Mark.{Mark}
use Rattle.lrs_position.specs.declared.route.Referent.{Referent}
use Rattle.lrs_report.specs.declared.diagrams.diagram.DrawnPiece.{DrawnPiece}
use Rattle.lrs_report.specs.declared.diagrams.diagram.DrawnRow.{DrawnRow}
use Rattle.lrs_report.specs.declared.diagrams.labels.LabelPlace.{LabelPlace}
use Rattle.lrs_report.specs.declared.diagrams.scale.Scale.{Scale}
use Rattle.lrs_report.specs.Drawings.Labels.{fits, label_text, labels_text, mark_place, piece_label, piece_place, referent_place, row_place}
use Rattle.lrs_report.specs.Drawings.Shapes.{value_text}
use Rattle.lrs_report.specs.Drawings.Scales.{x_at}

-- what lies further along stands no further left, and everything stands between the ends of the axis
pub record KeepsOrder (s : Scale) (low high : ℕ) : Type 0 where
  pub order : x_at s low ≤ x_at s high
  pub left : 1_000 ≤ x_at s low
  pub right : x_at s high ≤ 11_000

-- Order along the route is order on the page.
abbrev pub OrderIsKept : Type 0
OrderIsKept = (s : Scale) (low high : ℕ) → low ≤ high → KeepsOrder s low high

-- the labels that fit, each behind those before it
abbrev pub fitting : {L : Type 0} → (L → LabelPlace) → ℕ → List L → List L
fitting place free [] = []
fitting place free (l ∷ ls) = if fits free (place l) then l ∷ fitting place (place l).end ls else fitting place free ls

-- each begins no further left than the one before it ends, and ends where it has to
abbrev pub StandApart : ℕ → List LabelPlace → Type 0
StandApart free [] = ⊤
StandApart free (p ∷ ps) = (free ≤ p.start) × (p.end ≤ p.limit) × StandApart p.end ps

-- these labels are written, and stand apart
pub record AreLabels {L : Type 0} (place : L → LabelPlace) (text : L → Text) (free : ℕ) (labels : List L) : Type 0 where
  pub written : labels_text place text free labels ≡ flat_map (λ l. label_text (place l).start (text l)) (fitting place free labels)
  pub apart : StandApart free (map place (fitting place free labels))

-- The labels that are written are those that fit, and they stand apart: values of rows, measures at marks, names of referents, and links.
abbrev pub LabelsStandApart : Type 0
LabelsStandApart = (s : Scale)
    → ((rows : List DrawnRow) → AreLabels (row_place s) (λ r. value_text r.value) 0 rows)
    × ((marks : List Mark) → AreLabels (mark_place s) (λ m. decimal m.measure) 0 marks)
    × ((referents : List Referent) → AreLabels (referent_place s) (λ r. r.name) 0 referents)
    × ((pieces : List DrawnPiece) → AreLabels (piece_place s) piece_label 0 pieces)

-- the character means nothing in an SVG picture: it is no ampersand, apostrophe or less-than sign
abbrev pub is_plain_byte : ℕ → Bool
is_plain_byte byte = not (list_any (nat_eq byte) (38 ∷ 39 ∷ 60 ∷ []))

abbrev pub IsPlain : Text → Type 0
IsPlain text = list_all is_plain_byte text ≡ true

-- No name and no value has to be escaped.
abbrev pub TextsArePlain : Type 0
TextsArePlain = (text : Text)
    → (IsTrue (is_route_name text) → IsPlain text) × (IsTrue (is_referent_name text) → IsPlain text) × (IsTrue (is_class_name text) → IsPlain text) × (IsTrue (is_value text) → IsPlain text)
