-- What a diagram of a route draws: the rows of the chosen classes, from a chainage to another.
use Rattle.std.specs.Prelude.{◌≡◌, ◌⊎◌, ◌+◌, ◌<◌, ◌≤◌, ℕ, Bool, true, false, ⊤, List, [], ◌∷◌, take, length, map, filter, Option, Some, None, MatchOption, Result, Ok, Err, slice_get, unwrap_or}
use Rattle.std.specs.List.{find}
use Rattle.std.specs.Option.{option_map}
use Rattle.std.specs.List.Sorted.{IsPermutation, IsSortedBy}
use Rattle.std.specs.Ordering.{is_eq, is_lt}
use Rattle.std.specs.declared.cmp.Ordering.{Ordering}
use Rattle.lrs_position.specs.declared.route.Referent.{Referent}
use Rattle.lrs_measure.specs.Texts.{Name, name_cmp}
use Rattle.lrs_element.specs.Course.{course_of, IsFewest}
use Rattle.lrs_element.specs.Pieces.{piece_len}
use Rattle.lrs_element.specs.declared.link.Ground.{Ground}
use Rattle.lrs_element.specs.declared.link.Piece.{Piece}
use Rattle.lrs_position.specs.declared.location.PlaceFault.TheVariants as place
use Rattle.lrs_events.specs.declared.class.Asset.{Asset}
use Rattle.lrs_events.specs.declared.class.Class.{Class}
use Rattle.lrs_events.specs.declared.class.Kind.{Kind}
use Rattle.lrs_events.specs.declared.class.Kind.TheVariants.{Point, Stretch, Exclusive}
use Rattle.lrs_events.specs.declared.side.LinkSide.{LinkSide}
use Rattle.lrs_events.specs.declared.side.LinkSide.TheVariants.{Left, Right}
use Rattle.lrs_events.specs.declared.span.Span.{Span}
use Rattle.lrs_events.specs.LaneLists.Lane.{is_met}
use Rattle.lrs_events.specs.RouteSpans.LanesOfRows.{IsLaneOf}
use Rattle.lrs_machine.specs.declared.image.Image.{Image}
use Rattle.lrs_machine.specs.declared.image.RouteRow.{RouteRow}
use Rattle.lrs_machine.specs.declared.segment.SegFault.TheVariants as seg
use Rattle.lrs_image.specs.Change.{is_named}
use Rattle.lrs_report.specs.declared.diagrams.diagram.ClassBands.{ClassBands}
use Rattle.lrs_report.specs.declared.diagrams.diagram.Diagram.{Diagram}
use Rattle.lrs_report.specs.declared.diagrams.diagram.DrawnPiece.{DrawnPiece}
use Rattle.lrs_report.specs.declared.diagrams.diagram.DrawnRow.{DrawnRow}
use Rattle.lrs_report_answers.specs.declared.fault.AskFault.{AskFault}
use Rattle.lrs_report_answers.specs.declared.fault.AskFault.TheVariants.{Place, Seg, Memory}
use Rattle.lrs_report_answers.specs.Hits.{hit_by}
use Rattle.lrs_report_answers.specs.Answers.{route_missing}

-- ---- rows

abbrev pub is_point : Kind → Bool
is_point Point = true
is_point Stretch = false
is_point Exclusive = false

-- the value of the asset of a row
abbrev pub value_of : List Asset → Span → Option Name
value_of assets r = option_map (λ h. h.asset.value) (hit_by assets r)

-- a row as it is drawn: where it lies, its asset, and the asset's value
abbrev pub drawn_row : List Asset → Bool → Span → DrawnRow
drawn_row assets point r = record { from = r.from; to = r.to; asset = r.asset; value = value_of assets r; is_point = point }

-- Each row of the class on this side that has a millimetre of the stretch is drawn on the band, once, and nothing else is.
abbrev pub IsBand : List Asset → List Span → ℕ → ℕ → Class → LinkSide → List DrawnRow → Type 0
IsBand assets rows from to class side drawn =
    (lane : List Span) × IsLaneOf rows class.name side lane × (drawn ≡ map (drawn_row assets (is_point class.kind)) (filter (is_met from to) lane))

-- the bands of a class, one on each side
pub record AreBandsOf (assets : List Asset) (rows : List Span) (from to : ℕ) (class : Class) (b : ClassBands) : Type 0 where
  pub class_is : b.class ≡ class
  pub left : IsBand assets rows from to class Left b.left
  pub right : IsBand assets rows from to class Right b.right

-- the bands of classes, in their order
abbrev pub AreBands : List Asset → List Span → ℕ → ℕ → List Class → List ClassBands → Type 0
AreBands assets rows from to [] [] = ⊤
AreBands assets rows from to (c ∷ cs) (b ∷ bs) = AreBandsOf assets rows from to c b × AreBands assets rows from to cs bs
AreBands assets rows from to [] (b ∷ bs) = ⊥
AreBands assets rows from to (c ∷ cs) [] = ⊥

-- ---- pieces

-- pieces one after another, from a chainage on
abbrev pub placed : ℕ → List Piece → List DrawnPiece
placed at [] = []
placed at (p ∷ ps) = record { from = at; to = at + piece_len p; piece = p } ∷ placed (at + piece_len p) ps

-- the fewest pieces of a course, each where it lies
abbrev pub ArePlaced : List Ground → List DrawnPiece → Type 0
ArePlaced course drawn = (pieces : List Piece) × (course_of pieces ≡ course) × IsFewest pieces × (drawn ≡ placed 0 pieces)

-- how two referents stand along a route: by chainage, and those in one millimetre by name
abbrev pub along : Referent → Referent → Ordering
along r s = name_cmp (r.at ∷ r.name) (s.at ∷ s.name)

abbrev pub stands_before : Referent → Referent → Bool
stands_before r s = is_lt (along r s)

-- the referents in their order along the route
abbrev pub AreAlong : List Referent → List Referent → Type 0
AreAlong referents drawn = IsPermutation referents drawn × IsSortedBy stands_before drawn

-- ---- classes

-- the class of a name
abbrev pub class_named : List Class → Name → Option Class
class_named classes name = find (λ c. is_eq (name_cmp c.name name)) classes

-- all classes where none is named, and else those of the names, in their order
abbrev pub AreChosen : List Class → List Name → List Class → Type 0
AreChosen classes [] chosen = chosen ≡ classes
AreChosen classes (name ∷ names) chosen = map (class_named classes) (name ∷ names) ≡ map Some chosen

-- the name at this place is the first of no class
pub record IsFirstUnknown (classes : List Class) (names : List Name) (at : ℕ) : Type 0 where
  pub before : List Class
  pub known : map (class_named classes) (take at names) ≡ map Some before
  pub unknown : slice_get (map (class_named classes) names) at ≡ Some None

-- the first class that is not known is named, or memory ran out
abbrev pub LacksClass : List Class → List Name → AskFault → Type 0
LacksClass classes names fault = (fault ≡ Memory) ⊎ ((at : ℕ) × IsFirstUnknown classes names at × (fault ≡ Seg (seg.NoClass at)))

-- ---- diagrams

-- The route from a chainage to another, with these classes.
pub record IsDrawing (i : Image) (e : RouteRow) (chosen : List Class) (from to : ℕ) (d : Diagram) : Type 0 where
  pub route : d.route ≡ e.route.name
  pub start : d.scale.from ≡ from
  pub stop : d.scale.to ≡ to
  pub marks : d.marks ≡ e.route.marks
  pub referents : AreAlong e.route.refs d.referents
  pub pieces : ArePlaced e.route.course d.pieces
  pub classes : AreBands i.assets e.spans from to chosen d.classes

-- a stretch of the route that is not empty
abbrev pub IsStretch : RouteRow → ℕ → ℕ → Type 0
IsStretch e from to = (from < to) × (to ≤ length e.route.course)

-- The answer is the diagram; or the first class that is not known is named; or the stretch is none of the route; or memory ran out.
abbrev pub IsDrawnOn : Image → RouteRow → List Name → ℕ → ℕ → Result Diagram AskFault → Type 0
IsDrawnOn i e names from to (Ok d) = (chosen : List Class) × AreChosen i.classes names chosen × IsStretch e from to × IsDrawing i e chosen from to d
IsDrawnOn i e names from to (Err fault) =
    LacksClass i.classes names fault ⊎ ((chosen : List Class) × AreChosen i.classes names chosen × (IsStretch e from to → ⊥) × (fault ≡ Place place.OffRoute))

-- A diagram of the route of a name, by default from its start to its end; the route is missing where none has the name.
abbrev pub IsDrawn : Image → Name → List Name → Option ℕ → Option ℕ → Result Diagram AskFault → Type 0
IsDrawn i name names from to result =
    MatchOption (find (is_named name) i.routes) (result ≡ Err route_missing) (λ e. IsDrawnOn i e names (unwrap_or from 0) (unwrap_or to (length e.route.course)) result)
