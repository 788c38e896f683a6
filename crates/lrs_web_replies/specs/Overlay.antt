-- The values of exclusive classes side by side, as JSON and as CSV.
use Rattle.std.specs.Prelude.{if◌then◌else◌, List, [], ◌∷◌, codes, map, Option}
use Rattle.std.specs.List.{flat_map}
use Rattle.serde_json.specs.Data.{Data, string}
use Rattle.lrs_measure.specs.Runs.{Run}
use Rattle.lrs_measure.specs.Texts.{Name}
use Rattle.lrs_position.specs.declared.route.Route.{Route}
use Rattle.lrs_events.specs.declared.side.LinkSide.{LinkSide}
use Rattle.lrs_machine.specs.declared.image.Image.{Image}
use Rattle.lrs_machine.specs.declared.image.RouteRow.{RouteRow}
use Rattle.lrs_machine.specs.declared.question.OverlayWanted.{OverlayWanted}
use Rattle.lrs_machine.specs.declared.segment.Segment.{Segment}
use Rattle.lrs_machine.specs.Segments.{Values}
use Rattle.lrs_report.specs.Sweep.{run_of}
use Rattle.lrs_report_lists.specs.Lines.{link_side_text}
use Rattle.lrs_report_lists.specs.Lists.{routes_named}
use Rattle.lrs_report_lists.specs.Measures.{decimal_measure_text, measure_text}
use Rattle.lrs_report_answers.specs.Overlay.{is_segment_wanted, overlay_text, sides_of, wanted_segments}
use Rattle.lrs_web_requests.specs.Text.{Answer}
use Rattle.lrs_web_requests.specs.declared.paths.Format.{Format}
use Rattle.lrs_web_replies.specs.JsonParts.{each, whole, with}
use Rattle.lrs_web_replies.specs.Listings.{in_format, named_list, said_of}
use Rattle.lrs_web_replies.specs.Pages.{paged}
use Rattle.lrs_web_replies.specs.declared.pages.Page.{Page}

-- a value, or null where there is none
abbrev pub held_data : Option Name → Data
held_data value = said_of string value

-- a segment of a side of a route: the chainages and measures from and to, exact and as decimals, the route, the side, and the value of each class, in the order in which the classes are asked for
abbrev pub overlay_item : Route → LinkSide → Run Values → Data
overlay_item route side s = with (
    (codes "from", whole s.from) ∷ (codes "from_measure", string (measure_text route.marks s.from))
    ∷ (codes "from_measure_decimal", string (decimal_measure_text route.marks s.from)) ∷ (codes "route", string route.name)
    ∷ (codes "side", string (link_side_text side)) ∷ (codes "to", whole s.to) ∷ (codes "to_measure", string (measure_text route.marks s.to))
    ∷ (codes "to_measure_decimal", string (decimal_measure_text route.marks s.to)) ∷ (codes "values", each held_data s.value) ∷ []
    )

-- the segments of a side of a route that are asked for
abbrev pub side_items : Image → OverlayWanted → RouteRow → LinkSide → List Data
side_items i w e side = map (overlay_item e.route side) (wanted_segments i w e side)

-- those of the left side and then of the right one, or of the side that is asked for
abbrev pub overlay_items : Image → OverlayWanted → RouteRow → List Data
overlay_items i w e = flat_map (side_items i w e) (sides_of w.side)

-- a page of every segment that is asked for, of every route that is asked for
abbrev pub overlay_data : Page → OverlayWanted → Image → Data
overlay_data page w i = named_list (codes "overlay") (paged page (flat_map (overlay_items i w) (routes_named w.route i)))

-- the segments that are asked for, in a format
abbrev pub overlay_answer : Format → Page → Image → OverlayWanted → Answer
overlay_answer format page i w = in_format format (overlay_data page w i) (overlay_text w i)

-- a segment, where it is asked for
abbrev pub segment_items : OverlayWanted → Route → LinkSide → Segment → List Data
segment_items w route side s = if is_segment_wanted w (run_of s) then overlay_item route side (run_of s) ∷ [] else []
