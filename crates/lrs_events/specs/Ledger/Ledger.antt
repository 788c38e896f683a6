-- What the parts of rows say of the rows and of the course.
use Rattle.std.specs.Prelude.{◌≡◌, ℕ, ◌+◌, ◌<◌, ◌≤◌, Bool, true, ◌&&◌, nat_eq, nat_le, if◌then◌else◌, List, length, slice_range, slice_index_or, sum_by}
use Rattle.std.specs.List.{list_any, list_all, count_by}
use Rattle.lrs_element.specs.declared.link.Piece.{Piece}
use Rattle.lrs_element.specs.declared.link.Ground.{Ground}
use Rattle.lrs_element.specs.Course.{course_of, continues, IsFewest}
use Rattle.lrs_events.specs.declared.part.Part.{Part}
use Rattle.lrs_events.specs.declared.side.LinkSide.{LinkSide}
use Rattle.lrs_events.specs.declared.span.Span.{Span}
use Rattle.lrs_events.specs.Members.{stands_for}
use Rattle.lrs_events.specs.Places.{Place, same_place, beside, places_on}
use Rattle.lrs_events.specs.Parts.{has_for}
use Rattle.lrs_events.specs.Spans.{holds_by_spans}

-- how often a row on a course has a place for an asset: more than once only where the course comes there again
abbrev pub times_in_row : List Ground → ℕ → Place → Span → ℕ
times_in_row course asset p row = if nat_eq row.asset asset then count_by (same_place p) (places_on row.side (slice_range course row.from row.to)) else 0

abbrev pub times_in_rows : List Ground → List Span → ℕ → Place → ℕ
times_in_rows course rows asset p = sum_by (times_in_row course asset p) rows

-- whether the part lies on the ground of the piece
abbrev pub lies_in : Part → Piece → Bool
lies_in part piece = nat_eq part.link piece.link && nat_le piece.from part.from && nat_le part.to piece.to

-- each part lies in one of the fewest pieces of the course
pub record AreInPieces (course : List Ground) (parts : List Part) : Type 0 where
  pub pieces : List Piece
  pub fewest : IsFewest pieces
  pub run_over : course_of pieces ≡ course
  pub within : list_all (λ part. list_any (lies_in part) pieces) parts ≡ true

-- whether some row of the asset has the millimetre of a route on this side of it
abbrev pub are_on : List Span → ℕ → ℕ → LinkSide → Bool
are_on rows asset j s = list_any (λ row. stands_for row asset j s) rows

-- whether one of the parts has both places for the asset
abbrev pub one_has : List Part → ℕ → Place → Place → Bool
one_has parts asset p q = list_any (λ part. has_for asset p part && has_for asset q part) parts

-- Neighbouring millimetres of the route that an asset has on one side are in one part, where the course goes from the one
-- straight on to the other: so the parts are as few as the pieces of the course allow.
pub record AreWhole (course : List Ground) (rows : List Span) (parts : List Part) : Type 0 where
  pub whole : (asset j : ℕ) (s : LinkSide) (d : Ground) → j + 1 < length course → continues (slice_index_or course j d) (slice_index_or course (j + 1) d) ≡ true
      → are_on rows asset j s ≡ true → are_on rows asset (j + 1) s ≡ true
      → one_has parts asset (beside (slice_index_or course j d) s) (beside (slice_index_or course (j + 1) d) s) ≡ true

-- No other parts that lie in pieces of the course and have what the rows hold are fewer.
abbrev pub NoneIsShorter : List Ground → List Span → List Part → Type 0
NoneIsShorter course rows parts = (others : List Part) → AreInPieces course others
    → ((asset : ℕ) (p : Place) → list_any (has_for asset p) others ≡ holds_by_spans course rows asset p) → length parts ≤ length others
