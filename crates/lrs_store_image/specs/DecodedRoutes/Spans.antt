-- What rows say of spans, and the entries of routes with canonical spans.
use Rattle.std.specs.Prelude.{Bool, ◌&&◌, ◌||◌, not, nat_eq, List, map, Option, Some}
use Rattle.std.specs.List.{list_any}
use Rattle.lrs_measure.specs.Texts.{Name, same_name, name_before}
use Rattle.lrs_element.specs.declared.link.Link.{Link}
use Rattle.lrs_position.specs.declared.route.Route.{Route}
use Rattle.lrs_events.specs.declared.class.Class.{Class}
use Rattle.lrs_events.specs.declared.class.Asset.{Asset}
use Rattle.lrs_events.specs.declared.span.Span.{Span}
use Rattle.lrs_events.specs.Spans.{are_rows, are_apart, span_before}
use Rattle.lrs_machine.specs.declared.image.RouteRow.{RouteRow}
use Rattle.lrs_machine.specs.Sound.{RouteCourse, are_spans}
use Rattle.lrs_store_tables.specs.Contents.Tables.{SpanRow}
use Rattle.lrs_store_tables.specs.Contents.Decoders.{OfRoute, said_of, sorted, only_if, span_of}
use Rattle.lrs_store_tables.specs.Contents.Decoders as option
use Rattle.lrs_store_tables.specs.Contents.Content.{spans_of}

-- in the order of their names
abbrev pub named_before : Route → Route → Bool
named_before a b = name_before a.name b.name

-- one of the routes has this name
abbrev pub is_one_of : List Route → Name → Bool
is_one_of routes name = list_any (λ route. same_name route.name name) routes

-- what a row says of one of the routes
abbrev pub known_span : List Asset → List Route → SpanRow → Option (OfRoute Span)
known_span assets routes row = option.◌>>=◌ (span_of assets row) (λ s. only_if (is_one_of routes s.route) s)

-- not of one asset in two classes
abbrev pub agree : Span → Span → Bool
agree r s = not (nat_eq r.asset s.asset) || same_name r.class s.class

-- ... as two rows say it
abbrev pub agree_said : OfRoute Span → OfRoute Span → Bool
agree_said r s = agree r.said s.said

-- in order, and as canonical rows lie to each other
abbrev pub follows : Span → Span → Bool
follows r s = span_before r s && are_apart r s

-- rows in their order, if they are canonical
abbrev pub canonical : List Span → Option (List Span)
canonical rows = only_if (are_rows (sorted span_before rows)) (sorted span_before rows)

-- the route with its spans, if these are canonical
abbrev pub canonical_entry : List (OfRoute Span) → Route → Option RouteRow
canonical_entry said route = option.◌>>=◌ (canonical (said_of route.name said)) (λ rows. Some (record { route = route; spans = rows }))

-- the courses of routes
abbrev pub courses_over : List Route → List RouteCourse
courses_over routes = map (λ r. record { route = r.name; entries = r.course }) routes

-- the test of the table of spans
abbrev pub are_sound : List Link → List Class → List Asset → List RouteRow → Bool
are_sound links classes assets entries = are_spans links classes assets (map spans_of entries)
