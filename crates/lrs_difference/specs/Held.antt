-- What the rows of an inventory hold of links: for each row, the stretch of each piece of its route's course that it has a millimetre of.
use Rattle.std.specs.Prelude.{◌≡◌, ℕ, Bool, ◌&&◌, nat_eq, nat_le, nat_lt, List, []}
use Rattle.std.specs.List.{cons_option, flat_map, list_any}
use Rattle.std.specs.Option.{option_map}
use Rattle.lrs_element.specs.declared.link.Piece.{Piece}
use Rattle.lrs_element.specs.declared.link.Ground.{Ground}
use Rattle.lrs_events.specs.declared.span.Span.{Span}
use Rattle.lrs_events.specs.Members.{has_side}
use Rattle.lrs_events.specs.Places.{Place}
use Rattle.lrs_machine.specs.declared.image.Image.{Image}
use Rattle.lrs_machine.specs.declared.image.RouteRow.{RouteRow}
use Rattle.lrs_machine.specs.Image.{state_of}
use Rattle.lrs_report_lists.specs.declared.link_rows.LinkStretch.{LinkStretch}
use Rattle.lrs_report_lists.specs.LinkRows.{on_piece}
use Rattle.lrs_report_lists.specs.PlacedPieces.{placed_pieces}
use Rattle.lrs_difference.specs.declared.link_stretches.HeldStretch.{HeldStretch}

-- what a row has of a piece that begins at a chainage
abbrev pub held_on_piece : Span → ℕ × Piece → List HeldStretch
held_on_piece r (start, p) = cons_option (option_map (λ s. record { asset = r.asset; stretch = s }) (on_piece r start p)) []

abbrev pub held_by_row : List Ground → Span → List HeldStretch
held_by_row course r = flat_map (held_on_piece r) (placed_pieces course)

abbrev pub held_on : RouteRow → List HeldStretch
held_on e = flat_map (held_by_row e.route.course) e.spans

abbrev pub held_in : Image → List HeldStretch
held_in i = flat_map held_on i.routes

-- the stretch has the place
abbrev pub has_place : LinkStretch → Place → Bool
has_place s p = nat_eq s.link p.link && (nat_le s.from p.mm && nat_lt p.mm s.to) && has_side s.side p.side

-- ... and its asset holds it
abbrev pub holds_place : ℕ → Place → HeldStretch → Bool
holds_place asset p h = nat_eq h.asset asset && has_place h.stretch p

-- An asset holds a place exactly where some stretch says so.
abbrev pub StretchesAreHeld : Type 0
StretchesAreHeld = (i : Image) (asset : ℕ) (p : Place) → (state_of i).holds asset p ≡ list_any (holds_place asset p) (held_in i)
