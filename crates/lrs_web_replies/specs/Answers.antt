-- Answers to questions, as JSON: an object with its members in the order of their names.
use Rattle.std.specs.Prelude.{◌≡◌, ℕ, List, [], ◌∷◌, ◌++◌, codes, Option, None, Some, length}
use Rattle.std.specs.Fmt.{decimal}
use Rattle.serde_json.specs.Data.{Data, string}
use Rattle.lrs_measure.specs.Fraction.{Fraction}
use Rattle.lrs_measure.specs.FractionTexts.{fraction_text}
use Rattle.lrs_measure.specs.Texts.{Name}
use Rattle.lrs_element.specs.Course.{course_of, IsFewest}
use Rattle.lrs_element.specs.declared.link.Ground.{Ground}
use Rattle.lrs_element.specs.declared.link.Piece.{Piece}
use Rattle.lrs_element.specs.declared.marks.Mark.{Mark}
use Rattle.lrs_position.specs.declared.expression.Expr.{Expr}
use Rattle.lrs_position.specs.declared.route.Referent.{Referent}
use Rattle.lrs_position.specs.declared.route.Route.{Route}
use Rattle.lrs_position.specs.Readings.{expression_text}
use Rattle.lrs_events.specs.declared.side.Side.{Side}
use Rattle.lrs_events.specs.Names.{side_text}
use Rattle.lrs_machine.specs.declared.segment.Segment.{Segment}
use Rattle.lrs_machine.specs.declared.total.Total.{Total}
use Rattle.lrs_machine.specs.declared.hit.Hit.{Hit}
use Rattle.lrs_machine.specs.Lines.{Text, method_text, piece_text}
use Rattle.lrs_report_answers.specs.Answers.{direction_text}
use Rattle.lrs_report_answers.specs.declared.rows.FoundRow.{FoundRow}
use Rattle.lrs_report_answers.specs.declared.places.answer.Whereabouts.{Whereabouts}
use Rattle.lrs_report_lists.specs.declared.length_lists.table.ValueLength.{ValueLength}
use Rattle.lrs_web_replies.specs.JsonParts.{whole, list, each, with}

-- ---- where a position stands

-- an asset that holds a millimetre, the edit that entered it, and the side on which it holds it
abbrev pub hit_data : Hit → Data
hit_data h = with (
    (codes "asset", whole h.asset.number) ∷ (codes "class", string h.asset.class) ∷ (codes "entry", whole h.asset.entered_by)
    ∷ (codes "offset", whole h.asset.lateral) ∷ (codes "side", string (side_text h.side)) ∷ (codes "value", string h.asset.value) ∷ []
    )

-- the millimetre at of a route, the millimetre of a link that it is, and who holds it
abbrev pub at_data : Name → ℕ → Ground → List Hit → Data
at_data route at here hits = with (
    (codes "at", whole at) ∷ (codes "dir", string (direction_text here.forward)) ∷ (codes "hits", each hit_data hits)
    ∷ (codes "link", whole here.link) ∷ (codes "mm", whole here.mm) ∷ (codes "route", string route) ∷ []
    )

-- ---- a route

-- a chainage and the measure there
abbrev pub mark_data : Mark → Data
mark_data m = list (whole m.chainage ∷ whole m.measure ∷ [])

abbrev pub piece_data : Piece → Data
piece_data p = string (piece_text p)

-- a referent and the millimetre in which it stands
abbrev pub referent_data : Referent → Data
referent_data r = with ((codes "at", whole r.at) ∷ (codes "name", string r.name) ∷ [])

-- a route that runs over these pieces
abbrev pub route_data : Route → List Piece → Data
route_data r pieces = with (
    (codes "length", whole (length r.course)) ∷ (codes "marks", each mark_data r.marks) ∷ (codes "name", string r.name)
    ∷ (codes "pieces", each piece_data pieces) ∷ (codes "refs", each referent_data r.refs) ∷ []
    )

-- the route, in the fewest pieces of its course
pub record ShowsRoute (r : Route) (json : Data) : Type 0 where
  pub pieces : List Piece
  pub course : course_of pieces ≡ r.course
  pub fewest : IsFewest pieces
  pub is : json ≡ route_data r pieces

-- ---- segments

-- a value, or that there is none
abbrev pub value_data : Option Name → Data
value_data None = string (codes "-")
value_data (Some value) = string value

abbrev pub segment_data : Segment → Data
segment_data s = with ((codes "from", whole s.from) ∷ (codes "to", whole s.to) ∷ (codes "values", each value_data s.values) ∷ [])

abbrev pub segments_data : Name → Side → List Segment → Data
segments_data route side segments = with (
    (codes "route", string route) ∷ (codes "segments", each segment_data segments) ∷ (codes "side", string (side_text side)) ∷ []
    )

-- ---- positions by another method

abbrev pub position_data : Name → Text → Text → Data
position_data route method position = with ((codes "method", string method) ∷ (codes "pos", string position) ∷ (codes "route", string route) ∷ [])

-- a position on a route
abbrev pub translated_data : Name → Expr → Data
translated_data route e = position_data route (method_text e) (expression_text e)

-- a position on the link under a route: the link, and behind a colon the distance from its start
abbrev pub on_link_data : Name → ℕ × Fraction → Data
on_link_data route p = position_data route (codes "link") (decimal p.0 ++ 58 ∷ fraction_text p.1)

-- ---- totals

-- what was abandoned, entered and retired of a class, and what of it is present, in side millimetres
abbrev pub total_data : Total → Data
total_data t = with (
    (codes "abandoned", whole t.abandoned) ∷ (codes "class", string t.class) ∷ (codes "entered", whole t.entered)
    ∷ (codes "present", whole t.present) ∷ (codes "retired", whole t.retired) ∷ []
    )

abbrev pub totals_data : List Total → Data
totals_data totals = with ((codes "totals", each total_data totals) ∷ [])

-- ---- where an asset is

-- a stretch of a route that an asset holds, and its side
abbrev pub row_data : FoundRow → Data
row_data r = with (
    (codes "from", whole r.from) ∷ (codes "route", string r.route) ∷ (codes "side", string (side_text r.side)) ∷ (codes "to", whole r.to) ∷ []
    )

abbrev pub found_data : List FoundRow → Data
found_data rows = with ((codes "rows", each row_data rows) ∷ [])

-- ---- lengths

-- a value of a class: how many assets hold it, and how many millimetres of the routes it holds on the left, on either side, and on the right
abbrev pub length_data : ValueLength → Data
length_data l = with (
    (codes "assets", whole l.assets) ∷ (codes "class", string l.class) ∷ (codes "left", whole l.left) ∷ (codes "length", whole l.length)
    ∷ (codes "right", whole l.right) ∷ (codes "value", string l.value) ∷ []
    )

abbrev pub lengths_data : List ValueLength → Data
lengths_data lengths = with ((codes "lengths", each length_data lengths) ∷ [])

-- ---- what is at a place

-- the place by a method
abbrev pub place_data : Expr → Data
place_data e = with ((codes "method", string (method_text e)) ∷ (codes "pos", string (expression_text e)) ∷ [])

-- the members that a position has, and the place by each method and from each referent
abbrev pub whereabouts_data : Whereabouts → Data
whereabouts_data w = with (
    (codes "at", whole w.found.at) ∷ (codes "dir", string (direction_text w.found.ground.forward)) ∷ (codes "hits", each hit_data w.found.hits)
    ∷ (codes "link", whole w.found.ground.link) ∷ (codes "mm", whole w.found.ground.mm) ∷ (codes "positions", each place_data w.positions)
    ∷ (codes "route", string w.route) ∷ []
    )

-- ---- health

-- how many edits were accepted
abbrev pub health_data : ℕ → Data
health_data edits = with ((codes "edits", whole edits) ∷ [])

-- ---- why there is no answer

abbrev pub error_data : Text → Data
error_data cause = with ((codes "error", string cause) ∷ [])
