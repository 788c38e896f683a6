-- What a store holds: the sound image of its rows, or the first table that is unsound, each table read with the ones before it.
use Rattle.std.specs.Prelude.{ℕ, ℤ, Bool, true, false, ◌&&◌, nat_eq, nat_lt, List, [], ◌∷◌, map, length, Option, Some, None, Result, Ok, Err, if◌then◌else◌}
use Rattle.std.specs.List.{list_any, list_all}
use Rattle.lrs_measure.specs.Lists.{is_nothing, is_from_to}
use Rattle.lrs_measure.specs.OrderedLists.{insert_by}
use Rattle.lrs_measure.specs.Texts.{Name, same_name, name_before}
use Rattle.lrs_element.specs.declared.link.Piece.{Piece}
use Rattle.lrs_element.specs.declared.link.Ground.{Ground}
use Rattle.lrs_element.specs.declared.marks.Mark.{Mark}
use Rattle.lrs_element.specs.Course.{course_of, piece_count}
use Rattle.lrs_position.specs.declared.route.Referent.{Referent}
use Rattle.lrs_position.specs.declared.route.Route.{Route}
use Rattle.lrs_position.specs.Routes.{is_route}
use Rattle.lrs_events.specs.declared.class.Asset.{Asset}
use Rattle.lrs_events.specs.declared.part.Part.{Part}
use Rattle.lrs_events.specs.declared.span.Span.{Span}
use Rattle.lrs_events.specs.Spans.{span_before}
use Rattle.lrs_machine.specs.declared.image.RouteRow.{RouteRow}
use Rattle.lrs_machine.specs.declared.image.Edit.{Edit}
use Rattle.lrs_machine.specs.declared.image.Image.{Image}
use Rattle.lrs_machine.specs.declared.table.Table.{Table}
use Rattle.lrs_machine.specs.declared.table.Table.TheVariants as table
use Rattle.lrs_machine.specs.Image.{nothing}
use Rattle.lrs_events.specs.Parts.{part_before}
use Rattle.lrs_machine.specs.Sound.{RouteCourse, RouteMarks, RouteReferents, RouteSpans, link_before, are_links, class_before, are_classes, asset_before, are_assets, are_courses, are_all_marks, are_all_referents, are_spans, are_entered, gone_before, are_gone, are_edits, are_origins}
use Rattle.lrs_store_tables.specs.Contents.Tables.{Tables, PieceRow, MarkRow, RefRow, SpanRow, EditRow}
use Rattle.lrs_store_tables.specs.Contents.Decoders.{if_true, only_if, whole, each_of, each_sorted, sorted, OfRoute, said_of, Numbered, number_before, counted, link_of, class_of, asset_of, piece_of, mark_of, referent_of, span_of, part_of, gone_of, edit_of, Origin, origin_of}
use Rattle.lrs_store_tables.specs.Contents.Decoders as option

infixl 10 ◌>>=◌
abbrev pub ◌>>=◌ : {A B : Type 0} → Result A Table → (A → Result B Table) → Result B Table
(Ok x) >>= f = f x
(Err t) >>= f = Err t

-- what the rows of a table say, if each says something and together they pass the test
abbrev pub read : {A : Type 0} → Table → Option A → (A → Bool) → Result A Table
read t None test = Err t
read t (Some x) test = if test x then Ok x else Err t

-- a name in its place among others, unless it is one of them
abbrev pub with_name : Name → List Name → List Name
with_name name names = if list_any (same_name name) names then names else insert_by name_before name names

-- the routes of which something is said, in the order of their names
abbrev pub routes_named : {X : Type 0} → List (OfRoute X) → List Name
routes_named [] = []
routes_named (r ∷ rs) = with_name r.route (routes_named rs)

-- the course of pieces that are as few as it needs
abbrev pub course_in_fewest : List Piece → Option (List Ground)
course_in_fewest pieces = only_if (nat_eq (length pieces) (piece_count (course_of pieces))) (course_of pieces)

abbrev pub course_of_route : List (OfRoute (Numbered Piece)) → Name → Option RouteCourse
course_of_route said route =
    option.◌>>=◌ (counted 0 (sorted number_before (said_of route said))) (λ pieces.
    option.◌>>=◌ (course_in_fewest pieces) (λ course. Some (record { route = route; entries = course })))

-- the course of each route that a piece names
abbrev pub courses_of : List PieceRow → Option (List RouteCourse)
courses_of rows = option.◌>>=◌ (each_of piece_of rows) (λ said. each_of (course_of_route said) (routes_named said))

-- each row says something, and that of a route that passes the test
abbrev pub each_of_known : {Row X : Type 0} → (Row → Option (OfRoute X)) → (Name → Bool) → List Row → Option (List (OfRoute X))
each_of_known decoded is_known rows = option.◌>>=◌ (each_of decoded rows) (λ said. only_if (list_all (λ r. is_known r.route) said) said)

-- a route with its marks
pub record Measured : Type 0 where
  pub course : RouteCourse
  pub marks : List Mark

abbrev pub is_one_of : List RouteCourse → Name → Bool
is_one_of courses route = list_any (λ c. same_name c.route route) courses

abbrev pub measured_with : List (OfRoute (Numbered Mark)) → RouteCourse → Option Measured
measured_with said c = option.◌>>=◌ (counted 0 (sorted number_before (said_of c.route said))) (λ marks. Some (record { course = c; marks = marks }))

-- the marks of each route, where no mark is of another
abbrev pub measured_of : List MarkRow → List RouteCourse → Option (List Measured)
measured_of rows courses = option.◌>>=◌ (each_of_known mark_of (is_one_of courses) rows) (λ said. each_of (measured_with said) courses)

abbrev pub referent_before : Referent → Referent → Bool
referent_before a b = name_before a.name b.name

abbrev pub route_with : List (OfRoute Referent) → Measured → Option Route
route_with said m =
    let refs = sorted referent_before (said_of m.course.route said) in
    if_true (is_route m.course.entries m.marks refs) (λ fits. record { name = m.course.route; course = m.course.entries; marks = m.marks; refs = refs; fits = fits })

-- the routes with their referents, where no referent is of another
abbrev pub routes_of : List RefRow → List Measured → Option (List Route)
routes_of rows measured = option.◌>>=◌ (each_of_known referent_of (λ route. list_any (λ m. same_name m.course.route route) measured) rows) (λ said. each_of (route_with said) measured)

abbrev pub row_with : List (OfRoute Span) → Route → RouteRow
row_with said route = record { route = route; spans = sorted span_before (said_of route.name said) }

-- the routes with their spans, where no span is of another
abbrev pub entries_of : List Asset → List SpanRow → List Route → Option (List RouteRow)
entries_of assets rows routes = option.◌>>=◌ (each_of_known (span_of assets) (λ name. list_any (λ route. same_name route.name name) routes) rows) (λ said. Some (map (row_with said) routes))

-- the edits in the order of their numbers, which are those from 1 on
abbrev pub edits_of : List EditRow → Option (List Edit)
edits_of rows = option.◌>>=◌ (each_sorted number_before edit_of rows) (counted 1)

abbrev pub marks_of : Measured → RouteMarks
marks_of m = record { course = m.course.entries; marks = m.marks }

abbrev pub referents_of : Route → RouteReferents
referents_of r = record { length = length r.course; refs = r.refs }

abbrev pub spans_of : RouteRow → RouteSpans
spans_of e = record { course = e.route.course; rows = e.spans }

-- the edit of the first of these parts that is of the asset, or 0
abbrev pub edit_entering : List Part → ℕ → ℕ
edit_entering [] asset = 0
edit_entering (p ∷ ps) asset = if nat_eq p.asset asset then p.edit else edit_entering ps asset

-- an asset with the edit that entered it
abbrev pub with_edit : List Part → Asset → Asset
with_edit entered a = record a { entered_by = edit_entering entered a.number }

-- The image of the rows beside `version` and `origin`: the ledger tells which edit entered an asset.
abbrev pub inventory_of : Tables → Result Image Table
inventory_of t = do
  links ← read table.Link (each_sorted link_before link_of t.link) are_links
  classes ← read table.Class (each_sorted class_before class_of t.class) are_classes
  assets ← read table.Asset (each_sorted asset_before asset_of t.asset) (are_assets classes)
  courses ← read table.Piece (courses_of t.piece) (are_courses links)
  measured ← read table.Mark (measured_of t.mark courses) (λ ms. are_all_marks (map marks_of ms))
  routes ← read table.Ref (routes_of t.ref measured) (λ rs. are_all_referents (map referents_of rs))
  entries ← read table.Span (entries_of assets t.span routes) (λ es. are_spans links classes assets (map spans_of es))
  entered ← read table.Entered (each_sorted part_before part_of t.entered) (are_entered links assets)
  gone ← read table.Gone (each_sorted gone_before gone_of t.gone) (are_gone links assets (map spans_of entries) entered)
  edits ← read table.Edit (edits_of t.edit) (are_edits entered gone)
  Ok (record { links = links; classes = classes; assets = map (with_edit entered) assets; routes = entries; entered = entered; gone = gone; edits = edits })

-- one row, which says 1 or 2
abbrev pub version_of : List ℤ → Option ℕ
version_of (v ∷ []) = option.◌>>=◌ (whole v) (λ n. only_if (is_from_to 1 2 n) n)
version_of _ = None

abbrev pub origin_before : Origin → Origin → Bool
origin_before a b = nat_lt a.asset b.asset

-- each asset and its edit, and nothing more
abbrev pub are_origins_of : List Asset → List Origin → Bool
are_origins_of [] [] = true
are_origins_of [] (o ∷ os) = false
are_origins_of (a ∷ as_) [] = false
are_origins_of (a ∷ as_) (o ∷ os) = nat_eq o.asset a.number && nat_eq o.edit a.entered_by && are_origins_of as_ os

-- version 1 has no origins, and version 2 has that of each asset
abbrev pub has_origins : ℕ → List Asset → List Origin → Bool
has_origins version assets origins = if nat_eq version 1 then is_nothing origins else are_origins_of assets origins

-- the image of the rows of a store that has some
abbrev pub image_of : Tables → Result Image Table
image_of t = do
  version ← read table.Version (version_of t.version) (λ v. true)
  image ← inventory_of t
  origins ← read table.Origin (each_sorted origin_before origin_of t.origin) (λ os. are_origins image.entered image.assets && has_origins version image.assets os)
  Ok image

abbrev pub has_no_rows : Tables → Bool
has_no_rows t = is_nothing t.version && is_nothing t.link && is_nothing t.class && is_nothing t.asset && is_nothing t.piece && is_nothing t.mark
    && is_nothing t.ref && is_nothing t.span && is_nothing t.entered && is_nothing t.gone && is_nothing t.edit && is_nothing t.origin

-- What a store holds; one without any row holds the image without entries.
unfoldable pub content_of : Tables → Result Image Table
content_of t = if has_no_rows t then Ok nothing else image_of t
