-- Which images are sound, table by table, each table read with the ones before it. What a type says of each of its values is not asked again.
use Rattle.std.specs.Prelude.{◌≡◌, ℕ, ◌-◌, Bool, ◌||◌, ◌&&◌, not, nat_lt, nat_le, nat_eq, if◌then◌else◌, List, [], ◌∷◌, map, length, Option, Some, None, sum_by}
use Rattle.std.specs.List.{list_any, list_all, flat_map, count_by}
use Rattle.std.specs.Ordering.{nat_cmp, is_lt}
use Rattle.std.specs.Cmp.Lexicographic.{slice_cmp}
use Rattle.lrs_measure.specs.Lists.{each_two, is_from_to, same_bool}
use Rattle.lrs_measure.specs.Texts.{Name, same_name, name_before}
use Rattle.lrs_element.specs.declared.link.Link.{Link}
use Rattle.lrs_element.specs.declared.link.Ground.{Ground}
use Rattle.lrs_element.specs.declared.marks.Mark.{Mark}
use Rattle.lrs_element.specs.Course.{meets}
use Rattle.lrs_position.specs.declared.route.Referent.{Referent}
use Rattle.lrs_position.specs.Routes.{is_route_course, have_marks, are_referents}
use Rattle.lrs_events.specs.declared.class.Class.{Class}
use Rattle.lrs_events.specs.declared.class.Asset.{Asset}
use Rattle.lrs_events.specs.declared.span.Span.{Span}
use Rattle.lrs_events.specs.declared.part.Part.{Part}
use Rattle.lrs_events.specs.declared.part.Gone.{Gone}
use Rattle.lrs_events.specs.Places.{Place, same_link_side}
use Rattle.lrs_events.specs.Spans.{are_rows, holds_by_spans}
use Rattle.lrs_events.specs.Parts.{has_place, side_number, part_before}
use Rattle.lrs_events.specs.Places.{places_of_link, differs}
use Rattle.lrs_machine.specs.Segments.{is_exclusive}
use Rattle.lrs_machine.specs.declared.image.Edit.{Edit}
use Rattle.lrs_machine.specs.declared.image.Image.{Image}
use Rattle.lrs_machine.specs.declared.image.RouteRow.{RouteRow}
use Rattle.lrs_machine.specs.declared.table.Table.{Table}
use Rattle.lrs_machine.specs.declared.table.Table.TheVariants as table
use Rattle.lrs_measure.specs.Limits.{most_routes, most_assets, most_edits, most_pairs}
use Rattle.lrs_machine.specs.EnteredNumbers.{is_asset_number, is_lateral_offset}

-- table `link`: in the order of their numbers

abbrev pub link_before : Link → Link → Bool
link_before a b = nat_lt a.number b.number

abbrev pub are_links : List Link → Bool
are_links links = each_two link_before links

-- table `class`: in the order of their names

abbrev pub class_before : Class → Class → Bool
class_before a b = name_before a.name b.name

abbrev pub are_classes : List Class → Bool
are_classes classes = each_two class_before classes

-- table `asset`: in the order of their numbers, in their limits, of known classes, and not too many

abbrev pub asset_before : Asset → Asset → Bool
asset_before a b = nat_lt a.number b.number

abbrev pub is_asset : List Class → Asset → Bool
is_asset classes a = is_asset_number a.number && is_lateral_offset a.lateral && list_any (λ c. same_name c.name a.class) classes

abbrev pub are_assets : List Class → List Asset → Bool
are_assets classes assets = each_two asset_before assets && list_all (is_asset classes) assets && nat_le (length assets) most_assets

-- table `piece`: routes in the order of their names, over known links, no millimetre twice, and not too many

abbrev pub route_before : RouteRow → RouteRow → Bool
route_before a b = name_before a.route.name b.route.name

pub record RouteCourse : Type 0 where
  pub route : Name
  pub entries : List Ground

abbrev pub course_before : RouteCourse → RouteCourse → Bool
course_before a b = name_before a.route b.route

abbrev pub is_on_a_link : List Link → Ground → Bool
is_on_a_link links g = list_any (λ l. nat_eq l.number g.link && nat_lt g.mm l.length) links

abbrev pub is_course : List Link → RouteCourse → Bool
is_course links c = is_route_course c.entries && list_all (is_on_a_link links) c.entries && each_two differs c.entries

abbrev pub are_courses : List Link → List RouteCourse → Bool
are_courses links courses = each_two course_before courses && list_all (is_course links) courses
    && each_two (λ c d. not (meets c.entries d.entries)) courses && nat_le (length courses) most_routes

-- table `mark`: those of a route fit its course

pub record RouteMarks : Type 0 where
  pub course : List Ground
  pub marks : List Mark

abbrev pub are_all_marks : List RouteMarks → Bool
are_all_marks routes = list_all (λ r. have_marks r.course r.marks) routes

-- table `ref`: on their routes, in the order of their names, and no name on two routes

pub record RouteReferents : Type 0 where
  pub length : ℕ
  pub refs : List Referent

abbrev pub are_all_referents : List RouteReferents → Bool
are_all_referents routes = list_all (λ r. are_referents r.length r.refs) routes && each_two (λ a b. not (same_name a.name b.name)) (flat_map (λ r. r.refs) routes)

-- table `span`: on their routes, canonical, of known assets and of their classes, and exclusive classes hold no place twice

pub record RouteSpans : Type 0 where
  pub course : List Ground
  pub rows : List Span

abbrev pub is_span : List Asset → ℕ → Span → Bool
is_span assets len r = nat_le r.to len && list_any (λ a. nat_eq a.number r.asset && same_name a.class r.class) assets

abbrev pub are_spans_of : List Asset → RouteSpans → Bool
are_spans_of assets s = are_rows s.rows && list_all (is_span assets (length s.course)) s.rows

-- whether the rows of some route hold the place for the asset
abbrev pub holds_in : List RouteSpans → ℕ → Place → Bool
holds_in routes asset p = list_any (λ s. holds_by_spans s.course s.rows asset p) routes

abbrev pub places_of : List Link → List Place
places_of links = flat_map (λ l. places_of_link l.number l.length) links

-- how many assets of a class hold a place
abbrev pub holders_of : List Asset → List RouteSpans → Name → Place → ℕ
holders_of assets routes class p = count_by (λ a. same_name a.class class && holds_in routes a.number p) assets

abbrev pub keeps_exclusive : List Link → List Asset → List RouteSpans → Class → Bool
keeps_exclusive links assets routes c = not (is_exclusive c.kind) || list_all (λ p. nat_le (holders_of assets routes c.name p) 1) (places_of links)

abbrev pub are_spans : List Link → List Class → List Asset → List RouteSpans → Bool
are_spans links classes assets routes = list_all (are_spans_of assets) routes && list_all (keeps_exclusive links assets routes) classes

-- tables `entered` and `gone`: in their order, inside known links, of known assets, each pair once, and not too many of an asset

-- in the order of edit, reason, asset, link, start and side
abbrev pub gone_key : Gone → List ℕ
gone_key g = g.part.edit ∷ (if g.abandoned then 1 else 0) ∷ g.part.asset ∷ g.part.link ∷ g.part.from ∷ side_number g.part.side ∷ []

abbrev pub gone_before : Gone → Gone → Bool
gone_before x y = is_lt (slice_cmp nat_cmp (gone_key x) (gone_key y))

abbrev pub is_part : List Link → List Asset → Part → Bool
is_part links assets p = nat_lt p.from p.to && list_any (λ l. nat_eq l.number p.link && nat_le p.to l.length) links && list_any (λ a. nat_eq a.number p.asset) assets

-- two parts have no pair of asset and place in common
abbrev pub share_nothing : Part → Part → Bool
share_nothing x y = not (nat_eq x.asset y.asset && nat_eq x.link y.link && same_link_side x.side y.side) || nat_le x.to y.from || nat_le y.to x.from

-- how many places of an asset the parts have
abbrev pub pairs_of : ℕ → List Part → ℕ
pairs_of asset parts = sum_by (λ p. if nat_eq p.asset asset then p.to - p.from else 0) parts

abbrev pub are_parts : List Link → List Asset → List Part → Bool
are_parts links assets parts = list_all (is_part links assets) parts && each_two share_nothing parts && list_all (λ a. nat_le (pairs_of a.number parts) most_pairs) assets

abbrev pub are_entered : List Link → List Asset → List Part → Bool
are_entered links assets entered = each_two part_before entered && are_parts links assets entered

abbrev pub parts_of : List Gone → List Part
parts_of gone = map (λ g. g.part) gone

-- whether some part has the asset's place, whichever edit wrote it
abbrev pub has_asset_place : List Part → ℕ → Place → Bool
has_asset_place parts asset p = list_any (λ part. nat_eq part.asset asset && has_place part p) parts

-- held is what was entered and is not gone, and nothing is gone that was not entered
abbrev pub is_balanced_at : List RouteSpans → List Part → List Part → ℕ → Place → Bool
is_balanced_at routes entered gone asset p =
    same_bool (holds_in routes asset p) (has_asset_place entered asset p && not (has_asset_place gone asset p)) && (has_asset_place entered asset p || not (has_asset_place gone asset p))

abbrev pub are_balanced : List Link → List Asset → List RouteSpans → List Part → List Part → Bool
are_balanced links assets routes entered gone = list_all (λ a. list_all (is_balanced_at routes entered gone a.number) (places_of links)) assets

abbrev pub are_gone : List Link → List Asset → List RouteSpans → List Part → List Gone → Bool
are_gone links assets routes entered gone = each_two gone_before gone && are_parts links assets (parts_of gone) && are_balanced links assets routes entered (parts_of gone)

-- table `edit`: each key once, every edit that a ledger names, and not too many

abbrev pub is_named_by : List Edit → Part → Bool
is_named_by edits p = is_from_to 1 (length edits) p.edit

abbrev pub are_edits : List Part → List Gone → List Edit → Bool
are_edits entered gone edits = each_two (λ d e. not (same_name d.key e.key)) edits && list_all (is_named_by edits) entered && list_all (is_named_by edits) (parts_of gone) && nat_le (length edits) most_edits

-- table `origin`: each asset was entered, and by the one edit that it names

abbrev pub is_origin : List Part → Asset → Bool
is_origin entered a = list_any (λ p. nat_eq p.asset a.number) entered && list_all (λ p. not (nat_eq p.asset a.number) || nat_eq p.edit a.entered_by) entered

abbrev pub are_origins : List Part → List Asset → Bool
are_origins entered assets = list_all (is_origin entered) assets

-- the routes of an image as the tests read them

abbrev pub courses_of : Image → List RouteCourse
courses_of i = map (λ e. record { route = e.route.name; entries = e.route.course }) i.routes

abbrev pub marks_of : Image → List RouteMarks
marks_of i = map (λ e. record { course = e.route.course; marks = e.route.marks }) i.routes

abbrev pub referents_of : Image → List RouteReferents
referents_of i = map (λ e. record { length = length e.route.course; refs = e.route.refs }) i.routes

abbrev pub spans_of : Image → List RouteSpans
spans_of i = map (λ e. record { course = e.route.course; rows = e.spans }) i.routes

-- a table with its test
pub record Test : Type 0 where
  pub table : Table
  pub passes : Bool

-- the tables in the order in which an unsound one is named
abbrev pub tests : Image → List Test
tests i =
    record { table = table.Link; passes = are_links i.links }
    ∷ record { table = table.Class; passes = are_classes i.classes }
    ∷ record { table = table.Asset; passes = are_assets i.classes i.assets }
    ∷ record { table = table.Piece; passes = are_courses i.links (courses_of i) }
    ∷ record { table = table.Mark; passes = are_all_marks (marks_of i) }
    ∷ record { table = table.Ref; passes = are_all_referents (referents_of i) }
    ∷ record { table = table.Span; passes = are_spans i.links i.classes i.assets (spans_of i) }
    ∷ record { table = table.Entered; passes = are_entered i.links i.assets i.entered }
    ∷ record { table = table.Gone; passes = are_gone i.links i.assets (spans_of i) i.entered i.gone }
    ∷ record { table = table.Edit; passes = are_edits i.entered i.gone i.edits }
    ∷ record { table = table.Origin; passes = are_origins i.entered i.assets }
    ∷ []

abbrev pub first_failed : List Test → Option Table
first_failed [] = None
first_failed (t ∷ ts) = if t.passes then first_failed ts else Some t.table

-- The first unsound table of an image. `version` is a matter of stored rows alone, as kinds, sides and numbering are.
unfoldable pub first_unsound : Image → Option Table
first_unsound i = first_failed (tests i)

abbrev pub IsSound : Image → Type 0
IsSound i = first_unsound i ≡ None
