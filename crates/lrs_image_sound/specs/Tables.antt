-- The routes of an image as the tests of each table read them.
use Rattle.std.specs.Prelude.{Bool, ◌&&◌, nat_eq, nat_le, List, map, length}
use Rattle.std.specs.List.{list_any, list_all}
use Rattle.lrs_measure.specs.Texts.{same_name, name_before}
use Rattle.lrs_events.specs.declared.class.Asset.{Asset}
use Rattle.lrs_events.specs.declared.span.Span.{Span}
use Rattle.lrs_events.specs.Spans.{are_rows}
use Rattle.lrs_machine.specs.declared.image.RouteRow.{RouteRow}
use Rattle.lrs_machine.specs.Sound.{RouteCourse, RouteMarks, RouteReferents, RouteSpans, are_spans_of}

abbrev pub route_before : RouteRow → RouteRow → Bool
route_before a b = name_before a.route.name b.route.name

abbrev pub route_courses : List RouteRow → List RouteCourse
route_courses routes = map (λ e. record { route = e.route.name; entries = e.route.course }) routes

abbrev pub route_marks : List RouteRow → List RouteMarks
route_marks routes = map (λ e. record { course = e.route.course; marks = e.route.marks }) routes

abbrev pub route_referents : List RouteRow → List RouteReferents
route_referents routes = map (λ e. record { length = length e.route.course; refs = e.route.refs }) routes

abbrev pub route_spans : List RouteRow → List RouteSpans
route_spans routes = map (λ e. record { course = e.route.course; rows = e.spans }) routes

-- the rows of the route fit it and are of known assets
abbrev pub fits_route : List Asset → RouteRow → Bool
fits_route assets e = are_spans_of assets (record { course = e.route.course; rows = e.spans })

-- the rows of the route are canonical and end on it
abbrev pub rows_end_on : RouteRow → Bool
rows_end_on e = are_rows e.spans && list_all (λ r. nat_le r.to (length e.route.course)) e.spans

-- the row is of a known asset and of its class
abbrev pub is_known : List Asset → Span → Bool
is_known assets r = list_any (λ a. nat_eq a.number r.asset && same_name a.class r.class) assets
