-- Rows on the links under them: for each piece of the route's course that a row has a millimetre of, the stretch of its link, and the side seen along the link.
use Rattle.std.specs.Prelude.{ℕ, ◌+◌, ◌-◌, min, Bool, true, false, nat_lt, if◌then◌else◌, List, [], ◌∷◌, ◌++◌, codes, Option, Some, None}
use Rattle.std.specs.List.{flat_map}
use Rattle.std.specs.Option.{option_map_or}
use Rattle.std.specs.Fmt.{decimal}
use Rattle.lrs_measure.specs.Texts.{Name}
use Rattle.lrs_element.specs.declared.link.Piece.{Piece}
use Rattle.lrs_element.specs.Pieces.{piece_len}
use Rattle.lrs_position.specs.declared.route.Route.{Route}
use Rattle.lrs_events.specs.declared.class.Asset.{Asset}
use Rattle.lrs_events.specs.declared.side.Side.{Side}
use Rattle.lrs_events.specs.declared.span.Span.{Span}
use Rattle.lrs_events.specs.Names.{side_text}
use Rattle.lrs_events.specs.Row.Turns.{turned_side}
use Rattle.lrs_machine.specs.declared.question.RowForm.{RowForm}
use Rattle.lrs_machine.specs.declared.question.RowForm.TheVariants.{Decimal, Exact, OnLinks}
use Rattle.lrs_machine.specs.Lines.{Text}
use Rattle.lrs_report_lists.specs.Lines.{asset_numbered, csv_line, row_line_with, said_of}
use Rattle.lrs_report_lists.specs.PlacedPieces.{placed_pieces}
use Rattle.lrs_report_lists.specs.declared.link_rows.LinkStretch.{LinkStretch}

-- a side or sides of a route, seen along a link on which the route runs forwards or backwards
abbrev pub seen_along : Bool → Side → Side
seen_along true side = side
seen_along false side = turned_side side

-- a piece from its place low up to its place high, on the link
abbrev pub stretch_between : Side → Piece → ℕ → ℕ → LinkStretch
stretch_between side p low high = record {
  link = p.link;
  from = (if p.forward then p.from + low else p.to - high);
  to = (if p.forward then p.from + high else p.to - low);
  side = seen_along p.forward side;
}

-- what a row has of a piece that begins at this chainage
abbrev pub on_piece : Span → ℕ → Piece → Option LinkStretch
on_piece r start p =
    if nat_lt (r.from - start) (min (r.to - start) (piece_len p)) then Some (stretch_between r.side p (r.from - start) (min (r.to - start) (piece_len p))) else None

-- a line: the asset with its class, value and lateral offset, the link, the millimetres from and to, the side seen along the link, and the route
abbrev pub link_row_line : Option Asset → Route → Span → LinkStretch → Text
link_row_line a route r s =
    csv_line
    (decimal r.asset
    ∷ r.class
    ∷ said_of (λ x. x.value) a
    ∷ said_of (λ x. decimal x.lateral) a
    ∷ decimal s.link
    ∷ decimal s.from
    ∷ decimal s.to
    ∷ side_text s.side
    ∷ route.name
    ∷ [])

-- the line of what a row has of a piece that begins at a chainage, where it has a millimetre of it
abbrev pub on_piece_text : Option Asset → Route → Span → ℕ × Piece → Text
on_piece_text a route r (start, p) = option_map_or (link_row_line a route r) (on_piece r start p) []

abbrev pub link_rows_header : Text
link_rows_header =
    csv_line (codes "asset" ∷ codes "class" ∷ codes "value" ∷ codes "offset" ∷ codes "link" ∷ codes "from" ∷ codes "to" ∷ codes "side" ∷ codes "route" ∷ [])

-- A row in a form: its line on the route, or its lines on links, in the order of the route.
abbrev pub row_text_with : RowForm → Option Asset → Route → Span → Text
row_text_with Decimal a route r = row_line_with false a route r
row_text_with Exact a route r = row_line_with true a route r
row_text_with OnLinks a route r = flat_map (on_piece_text a route r) (placed_pieces route.course)

abbrev pub row_text : RowForm → List Asset → Route → Span → Text
row_text form assets route r = row_text_with form (asset_numbered assets r.asset) route r

-- ---- the parts of a line, as they are written

abbrev pub asset_part : Span → Text
asset_part r = decimal r.asset ++ 44 ∷ (r.class ++ 44 ∷ [])

abbrev pub value_part : Option Asset → Text
value_part a = said_of (λ x. x.value) a ++ 44 ∷ (said_of (λ x. decimal x.lateral) a ++ 44 ∷ [])

abbrev pub stretch_part : LinkStretch → Text
stretch_part s = decimal s.link ++ 44 ∷ (decimal s.from ++ 44 ∷ (decimal s.to ++ 44 ∷ (side_text s.side ++ 44 ∷ [])))

abbrev pub route_part : Name → Text
route_part route = route ++ 10 ∷ []
