-- The values of exclusive classes side by side: the segments of routes, and their lines.
use Rattle.std.specs.Prelude.{ℕ, Bool, false, ◌&&◌, ◌||◌, not, is_none, nat_lt, if◌then◌else◌, List, [], ◌∷◌, ◌++◌, map, filter, codes, Option, Some, None}
use Rattle.std.specs.List.{flat_map, list_any}
use Rattle.std.specs.Fmt.{decimal}
use Rattle.std.specs.declared.io.ErrorKind.{ErrorKind}
use Rattle.std.specs.declared.io.ErrorKind.TheVariants.{InvalidInput, OutOfMemory}
use Rattle.lrs_measure.specs.Runs.{Run}
use Rattle.lrs_measure.specs.Texts.{Name}
use Rattle.lrs_position.specs.declared.route.Route.{Route}
use Rattle.lrs_events.specs.declared.side.LinkSide.{LinkSide}
use Rattle.lrs_events.specs.declared.side.LinkSide.TheVariants.{Left, Right}
use Rattle.lrs_machine.specs.declared.image.Image.{Image}
use Rattle.lrs_machine.specs.declared.image.RouteRow.{RouteRow}
use Rattle.lrs_machine.specs.declared.question.OverlayAsked.{OverlayAsked}
use Rattle.lrs_machine.specs.declared.question.OverlayWanted.{OverlayWanted}
use Rattle.lrs_machine.specs.declared.segment.SegFault.{SegFault}
use Rattle.lrs_machine.specs.declared.segment.SegFault.TheVariants as seg
use Rattle.lrs_machine.specs.declared.segment.Segment.{Segment}
use Rattle.lrs_machine.specs.Image.{state_of}
use Rattle.lrs_machine.specs.Lines.{Text}
use Rattle.lrs_machine.specs.Readings.{segments_on}
use Rattle.lrs_machine.specs.Segments.{Values}
use Rattle.lrs_report.specs.Sweep.{run_of}
use Rattle.lrs_report_lists.specs.Lines.{csv_line, link_side_text}
use Rattle.lrs_report_lists.specs.Lists.{routes_named}
use Rattle.lrs_report_lists.specs.Measures.{measure_field}
use Rattle.lrs_report_lists.specs.WantedRows.{earlier, later}

-- what is asked for, where the ends of the stretch are found
abbrev pub overlay_wanted : OverlayAsked → Option ℕ → Option ℕ → OverlayWanted
overlay_wanted asked from to = record { classes = asked.classes; route = asked.route; side = asked.side; from = from; to = to; gaps = asked.gaps }

-- the sides that are asked for, the left one first
abbrev pub sides_of : Option LinkSide → List LinkSide
sides_of None = Left ∷ Right ∷ []
sides_of (Some side) = side ∷ []

-- some class has no value
abbrev pub has_gap : Values → Bool
has_gap values = list_any is_none values

-- A segment is asked for: it has a millimetre at or behind `from` and before `to`, and a gap where gaps alone are asked for.
abbrev pub is_segment_wanted : OverlayWanted → Run Values → Bool
is_segment_wanted w s = nat_lt (later w.from s.from) (earlier w.to s.to) && (not w.gaps || has_gap s.value)

-- a value; an empty field where there is none
abbrev pub value_field : Option Name → Text
value_field None = []
value_field (Some value) = value

-- a segment: the route, the chainages and measures from and to, the side, and the value of each class
abbrev pub overlay_line : Route → LinkSide → Run Values → Text
overlay_line route side s =
    csv_line
    (route.name
    ∷ decimal s.from
    ∷ decimal s.to
    ∷ measure_field false route.marks s.from
    ∷ measure_field false route.marks s.to
    ∷ link_side_text side
    ∷ map value_field s.value)

-- the segments of a route on a side, as the state has them, that are asked for
abbrev pub wanted_segments : Image → OverlayWanted → RouteRow → LinkSide → List (Run Values)
wanted_segments i w e side = filter (is_segment_wanted w) (segments_on (state_of i) e.route.course w.classes side)

abbrev pub overlay_on : Image → OverlayWanted → RouteRow → LinkSide → Text
overlay_on i w e side = flat_map (overlay_line e.route side) (wanted_segments i w e side)

abbrev pub overlay_of : Image → OverlayWanted → RouteRow → Text
overlay_of i w e = flat_map (overlay_on i w e) (sides_of w.side)

abbrev pub overlay_header : List Name → Text
overlay_header classes =
    csv_line (codes "route" ∷ codes "from" ∷ codes "to" ∷ codes "from_measure" ∷ codes "to_measure" ∷ codes "side" ∷ classes)

-- the header, and for each route that is asked for, and each side of it, its segments in their order
abbrev pub overlay_text : OverlayWanted → Image → Text
overlay_text w i = overlay_header w.classes ++ flat_map (overlay_of i w) (routes_named w.route i)

-- ---- parts of lines

-- fields, each behind a comma
abbrev pub next_fields : List Text → Text
next_fields fs = flat_map (λ f. 44 ∷ f) fs

-- the route, and the chainages and measures from and to
abbrev pub segment_place : Route → Segment → Text
segment_place route s =
    route.name ++ 44 ∷ (decimal s.from ++ 44 ∷ (decimal s.to ++ 44 ∷ (measure_field false route.marks s.from ++ 44 ∷ measure_field false route.marks s.to)))

-- the line of a segment where it is asked for
abbrev pub line_if_wanted : OverlayWanted → Route → LinkSide → Segment → Text
line_if_wanted w route side s = if is_segment_wanted w (run_of s) then overlay_line route side (run_of s) else []

-- ---- where segments are refused

-- the kind of the writer's error
abbrev pub refused_kind : SegFault → ErrorKind
refused_kind (seg.NoClass i) = InvalidInput
refused_kind (seg.NotExclusive i) = InvalidInput
refused_kind seg.SideB = InvalidInput
refused_kind seg.Memory = OutOfMemory
