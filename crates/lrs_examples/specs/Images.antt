-- Images: one that stands for the state of the speed limit, and its neighbours, in each of which one table is unsound.
use Rattle.std.specs.Prelude.{◌≡◌, ℕ, IsTrue, Bool, true, false, ◌&&◌, List, [], ◌∷◌, ◌++◌, length, map, codes, Option, Some, None, replicate, refl}
use Rattle.std.specs.List.{list_all, range_with_len, flat_map}
use Rattle.std.specs.Fmt.{digits}
use Rattle.lrs_measure.specs.Lists.{same_bool}
use Rattle.lrs_measure.specs.Texts.{Name}
use Rattle.lrs_element.specs.declared.link.Link.{Link}
use Rattle.lrs_element.specs.declared.link.Piece.{Piece}
use Rattle.lrs_element.specs.declared.link.Ground.{Ground}
use Rattle.lrs_element.specs.declared.marks.Mark.{Mark}
use Rattle.lrs_measure.specs.Limits.{is_link}
use Rattle.lrs_element.specs.Course.{course_of}
use Rattle.lrs_events.specs.declared.class.Class.{Class}
use Rattle.lrs_events.specs.declared.class.Asset.{Asset}
use Rattle.lrs_events.specs.declared.class.Kind.{Kind}
use Rattle.lrs_events.specs.declared.class.Kind.TheVariants.{Point, Stretch, Exclusive}
use Rattle.lrs_events.specs.declared.side.Side.{Side}
use Rattle.lrs_events.specs.declared.side.Side.TheVariants.{L, R, B}
use Rattle.lrs_events.specs.declared.side.LinkSide.{LinkSide}
use Rattle.lrs_events.specs.declared.side.LinkSide.TheVariants.{Left, Right}
use Rattle.lrs_events.specs.Places.{Place}
use Rattle.lrs_machine.specs.declared.answer.Answer.TheVariants.{Done, Refused}
use Rattle.lrs_machine.specs.declared.answer.Cause.TheVariants as cause
use Rattle.lrs_machine.specs.declared.command.Command.TheVariants as verb
use Rattle.lrs_machine.specs.State.{State, Retired, Abandoned}
use Rattle.lrs_machine.specs.Lines.{line_of}
use Rattle.lrs_machine.specs.Machine.{Record, answers, attempt, step}
use Rattle.lrs_machine.specs.Readings.{rows_of, places_of, all_places, edits_of}
use Rattle.lrs_position.specs.declared.route.Referent.{Referent}
use Rattle.lrs_position.specs.Routes.{is_route}
use Rattle.lrs_events.specs.declared.part.Part.{Part}
use Rattle.lrs_events.specs.declared.part.Gone.{Gone}
use Rattle.lrs_events.specs.declared.span.Span.{Span}
use Rattle.lrs_machine.specs.declared.image.RouteRow.{RouteRow}
use Rattle.lrs_machine.specs.declared.image.Edit.{Edit}
use Rattle.lrs_machine.specs.declared.image.Image.{Image}
use Rattle.lrs_machine.specs.declared.table.Table.{Table}
use Rattle.lrs_machine.specs.declared.table.Table.TheVariants as table
use Rattle.lrs_machine.specs.Image.{state_of}
use Rattle.lrs_machine.specs.Sound.{first_unsound, are_entered}
use Rattle.lrs_examples.specs.Sheet.{a1, b1, km2, speed, rail, sign, abs, between, link, class, forth, back, plain, enter, full, keyed, after, totals_of, totals, row, route_of, over, both_sides_along, first_pieces, first_marks, first_classes, sheet, with_speed, lower_limit}
use Rattle.lrs_examples.specs.Routes.{realigned_route}
use Rattle.lrs_examples.specs.Retirements.{superseded}

-- the parts of links that edit 8 entered for asset 10
abbrev pub part : ℕ → ℕ → ℕ → LinkSide → Part
part link lo hi side = record { edit = 8; asset = 10; link = link; from = lo; to = hi; side = side }

-- a part that was taken away, abandoned or retired
abbrev pub gone_part : Bool → Part → Gone
gone_part abandoned part = record { part = part; abandoned = abandoned }

-- a speed limit over a stretch of a route
abbrev pub span : ℕ → ℕ → ℕ → Side → Span
span asset from to side = record { asset = asset; class = speed; from = from; to = to; side = side }

-- the rows of links, classes, assets and routes
abbrev pub link_row : (number length : ℕ) → IsTrue (is_link number length) → Link
link_row number length fits = record { number = number; length = length; limits = fits }

abbrev pub class_row : Name → Kind → Class
class_row name kind = record { name = name; kind = kind }

-- an asset that edit 8 entered
abbrev pub asset_row : ℕ → Name → ℕ → Asset
asset_row number class lateral = record { number = number; class = class; value = codes "80"; lateral = lateral; entered_by = 8 }

abbrev pub route_row : (name : Name) (course : List Ground) (marks : List Mark) (refs : List Referent) → IsTrue (is_route course marks refs) → List Span → RouteRow
route_row name course marks refs fits spans = record { route = record { name = name; course = course; marks = marks; refs = refs; fits = fits }; spans = spans }

-- the route of the first sheet with these spans
abbrev pub first_route : List Span → RouteRow
first_route spans = route_row a1 (course_of first_pieces) first_marks [] refl spans

-- a route over these pieces, measured from 0, and without spans
abbrev pub bare_route : (name : Name) (pieces : List Piece) (length : ℕ) → IsTrue (is_route (course_of pieces) (plain length) []) → RouteRow
bare_route name pieces length fits = route_row name (course_of pieces) (plain length) [] fits []

-- an accepted command with its line
abbrev pub edit_row : Record → Edit
edit_row r = record { key = r.key; line = line_of r.command }

abbrev pub link_rows : List Link
link_rows = link_row 1 10 refl ∷ link_row 2 6 refl ∷ link_row 3 4 refl ∷ []

abbrev pub entered_rows : List Part
entered_rows = part 1 5 10 Left ∷ part 1 5 10 Right ∷ part 2 0 6 Left ∷ part 2 0 6 Right ∷ []

-- The image of the first sheet with the speed limit.
abbrev pub speed_image : Image
speed_image = record {
  links = link_rows;
  classes = first_classes;
  assets = asset_row 10 speed 0 ∷ [];
  routes = first_route (span 10 5 16 B ∷ []) ∷ [];
  entered = entered_rows;
  gone = [];
  edits = map edit_row with_speed;
}

-- It is sound, and has the places, the row, the route, the totals and the edits of the state.
abbrev pub ImageStands : Type 0
ImageStands =
    (first_unsound speed_image ≡ None)
    × (places_of (state_of speed_image) 10 ≡ both_sides_along 1 5 5 ++ both_sides_along 2 0 6)
    × (rows_of (state_of speed_image) a1 10 ≡ row 5 16 B ∷ [])
    × (route_of (state_of speed_image) a1 ≡ over first_pieces first_marks)
    × (totals_of speed (state_of speed_image) ≡ totals 22 0 0 22)
    × (map (λ e. e.line) (state_of speed_image).done
    ≡ codes "link,1,10" ∷ codes "link,2,6" ∷ codes "link,3,4" ∷ codes "class,SPEED,exclusive" ∷ codes "class,RAIL,stretch" ∷ codes "class,SIGN,point"
    ∷ codes "route,A1,1:0:10:+ 2:0:6:-,0:0 10:12 16:18" ∷ codes "enter,10,SPEED,A1,B,abs,6,18,80,0" ∷ [])

-- Its links.
pub image_links : (state_of speed_image).links.rows ≡ (1, 10) ∷ (2, 6) ∷ (3, 4) ∷ []
unfolding digits step attempt state_of
image_links = refl

-- The links of the state.
pub machine_links : (after with_speed).links.rows ≡ (1, 10) ∷ (2, 6) ∷ (3, 4) ∷ []
unfolding digits step attempt
machine_links = refl

-- Its classes, in the order of their names.
pub image_classes : (state_of speed_image).classes.rows ≡ (rail, Stretch) ∷ (sign, Point) ∷ (speed, Exclusive) ∷ []
unfolding digits state_of
image_classes = refl

-- The classes of the state, in the same order.
pub machine_classes : (after with_speed).classes.rows ≡ (rail, Stretch) ∷ (sign, Point) ∷ (speed, Exclusive) ∷ []
unfolding digits step attempt
machine_classes = refl

-- Its asset, with the edit that entered it.
pub image_assets : (state_of speed_image).assets.rows ≡ (10, record { class = speed; value = codes "80"; lateral = 0; entered_by = 8 }) ∷ []
unfolding digits state_of
image_assets = refl

-- The asset of the state.
pub machine_assets : (after with_speed).assets.rows ≡ (10, record { class = speed; value = codes "80"; lateral = 0; entered_by = 8 }) ∷ []
unfolding digits step attempt
machine_assets = refl

-- whether two states hold, entered and lost the same, over the places, assets and edits of the first
abbrev pub is_same_at : State → State → ℕ → Place → ℕ → Bool
is_same_at s t asset p n =
    same_bool (s.entered n asset p) (t.entered n asset p) && same_bool (s.gone n Retired asset p) (t.gone n Retired asset p) && same_bool (s.gone n Abandoned asset p) (t.gone n Abandoned asset p)

abbrev pub is_same_place : State → State → ℕ → Place → Bool
is_same_place s t asset p = same_bool (s.holds asset p) (t.holds asset p) && list_all (is_same_at s t asset p) (edits_of s)

abbrev pub is_same_ground : State → State → Bool
is_same_ground s t = list_all (λ a. list_all (is_same_place s t a.0) (all_places s)) s.assets.rows

-- Place by place and edit by edit the image tells what the state of the speed limit does.
pub same_as_the_state : is_same_ground (state_of speed_image) (after with_speed) ≡ true
unfolding digits step attempt state_of
same_as_the_state = refl

-- The image after the speed limit was superseded on one side.
abbrev pub superseded_image : Image
superseded_image = record speed_image {
  assets = asset_row 10 speed 0 ∷ record (asset_row 12 speed 0) { value = codes "50"; entered_by = 9 } ∷ [];
  routes = first_route (span 10 5 10 R ∷ span 10 10 16 B ∷ span 12 5 10 L ∷ []) ∷ [];
  entered = entered_rows ++ record (part 1 5 10 Left) { edit = 9; asset = 12 } ∷ [];
  gone = gone_part false (record (part 1 5 10 Left) { edit = 9 }) ∷ [];
  edits = map edit_row superseded;
}

-- It is sound.
pub superseded_image_is_sound : first_unsound superseded_image ≡ None
unfolding digits first_unsound
superseded_image_is_sound = refl

-- It tells what the state does.
pub superseded_image_stands : is_same_ground (state_of superseded_image) (after superseded) ≡ true
unfolding digits step attempt state_of
superseded_image_stands = refl

-- The image after a stretch of the route was replaced: what lay there is abandoned.
abbrev pub realigned_image : Image
realigned_image = record speed_image {
  routes = route_row a1 (course_of (forth 1 0 8 ∷ forth 3 0 4 ∷ back 2 0 4 ∷ [])) (plain 16) [] refl (span 10 5 8 B ∷ span 10 12 16 B ∷ []) ∷ [];
  gone = gone_part true (record (part 1 8 10 Left) { edit = 10 }) ∷ gone_part true (record (part 1 8 10 Right) { edit = 10 })
      ∷ gone_part true (record (part 2 4 6 Left) { edit = 10 }) ∷ gone_part true (record (part 2 4 6 Right) { edit = 10 }) ∷ [];
  edits = map edit_row realigned_route;
}

-- It is sound.
pub realigned_image_is_sound : first_unsound realigned_image ≡ None
unfolding digits first_unsound
realigned_image_is_sound = refl

-- It tells what the state does.
pub realigned_image_stands : is_same_ground (state_of realigned_image) (after realigned_route) ≡ true
unfolding digits step attempt state_of
realigned_image_stands = refl

-- An edit has the same answer on either: the next speed limit overlaps asset 10, and the barrier is done.
pub next_edit_on_the_image : answers full (keyed 8 (enter 11 speed L (between (abs 17) (abs 18)) (codes "60") ∷ lower_limit ∷ verb.Turn a1 ∷ [])) (state_of speed_image)
    ≡ Refused (cause.Overlap 10) ∷ Done 9 ∷ Done 10 ∷ []
unfolding digits step attempt state_of
next_edit_on_the_image = refl

-- A referent of an image stands on its ground millimetre: the third of the third link, run backwards, is its second.
pub referent_of_an_image : (state_of (record speed_image {
  routes = first_route (span 10 5 16 B ∷ []) ∷ route_row b1 (course_of (back 3 0 4 ∷ [])) (plain 4) (record { name = km2; at = 2 } ∷ []) refl [] ∷ [];
})).referents km2
    ≡ Some (3, 1)
unfolding digits state_of
referent_of_an_image = refl

-- With a ledger of what is gone: the speed limit is retired on the first link's left and abandoned on its right.
abbrev pub gone_image : Image
gone_image = record speed_image {
  routes = first_route (span 10 10 16 B ∷ []) ∷ [];
  gone = gone_part false (record (part 1 5 10 Left) { edit = 7 }) ∷ gone_part true (record (part 1 5 10 Right) { edit = 7 }) ∷ [];
}

-- It is sound: what was entered is held or gone.
pub gone_image_is_sound : first_unsound gone_image ≡ None
unfolding digits first_unsound
gone_image_is_sound = refl

-- Five side millimetres are retired, five abandoned, and twelve present.
pub gone_image_totals : totals_of speed (state_of gone_image) ≡ totals 22 5 5 12
unfolding digits state_of
gone_image_totals = refl

-- unsound neighbours, table by table

-- neighbours of the image, in which one list is another
abbrev pub with_links : List Link → Image
with_links links = record speed_image { links = links }

abbrev pub with_classes : List Class → Image
with_classes classes = record speed_image { classes = classes }

abbrev pub with_assets : List Asset → Image
with_assets assets = record speed_image { assets = assets }

abbrev pub with_routes : List RouteRow → Image
with_routes routes = record speed_image { routes = routes }

abbrev pub with_spans : List Span → Image
with_spans spans = with_routes (first_route spans ∷ [])

abbrev pub with_entered : List Part → Image
with_entered entered = record speed_image { entered = entered }

abbrev pub with_gone : List Gone → Image
with_gone gone = record speed_image { gone = gone }

abbrev pub with_edits : List Record → Image
with_edits records = record speed_image { edits = map edit_row records }

-- One unsound neighbour for each table.
abbrev pub UnsoundTables : Type 0
UnsoundTables =
    (first_unsound (with_links (link_row 2 6 refl ∷ link_row 1 10 refl ∷ link_row 3 4 refl ∷ [])) ≡ Some table.Link)
    × (first_unsound (with_classes (class_row sign Point ∷ class_row rail Stretch ∷ class_row speed Exclusive ∷ [])) ≡ Some table.Class)
    × (first_unsound (with_assets (asset_row 10 speed 100_001 ∷ [])) ≡ Some table.Asset)
    × (first_unsound (with_routes (first_route (span 10 5 16 B ∷ []) ∷ bare_route b1 (forth 4 0 4 ∷ []) 4 refl ∷ [])) ≡ Some table.Piece)
    × (first_unsound (with_routes (route_row a1 (course_of first_pieces) first_marks (record { name = km2; at = 2 } ∷ []) refl (span 10 5 16 B ∷ [])
    ∷ route_row b1 (course_of (forth 3 0 4 ∷ [])) (plain 4) (record { name = km2; at = 0 } ∷ []) refl [] ∷ [])) ≡ Some table.Ref)
    × (first_unsound (with_spans (span 10 5 16 B ∷ span 10 14 16 B ∷ [])) ≡ Some table.Span)
    × (first_unsound (with_entered (part 1 5 11 Left ∷ part 1 5 10 Right ∷ part 2 0 6 Left ∷ part 2 0 6 Right ∷ [])) ≡ Some table.Entered)
    × (first_unsound (with_entered []) ≡ Some table.Gone)
    × (first_unsound (with_edits sheet) ≡ Some table.Edit)
    × (first_unsound (with_assets (record (asset_row 10 speed 0) { entered_by = 7 } ∷ [])) ≡ Some table.Origin)

-- The faults of an image, each by its table.
abbrev pub faults : List Image → List (Option Table)
faults images = map first_unsound images

-- link: a number twice.
pub unsound_links : faults (with_links (link_row 1 10 refl ∷ link_row 1 10 refl ∷ link_row 2 6 refl ∷ link_row 3 4 refl ∷ []) ∷ []) ≡ Some table.Link ∷ []
unfolding digits first_unsound
unsound_links = refl

-- class: a name twice.
pub unsound_classes : faults (with_classes (class_row rail Stretch ∷ class_row rail Stretch ∷ class_row speed Exclusive ∷ []) ∷ []) ≡ Some table.Class ∷ []
unfolding digits first_unsound
unsound_classes = refl

-- asset: a class that is not there, numbers out of order, a number twice, number 0.
pub unsound_assets : faults (
    with_assets (asset_row 10 (codes "TREE") 0 ∷ []) ∷ with_assets (asset_row 11 speed 0 ∷ asset_row 10 speed 0 ∷ [])
    ∷ with_assets (asset_row 10 speed 0 ∷ asset_row 10 speed 0 ∷ []) ∷ with_assets (asset_row 0 speed 0 ∷ asset_row 10 speed 0 ∷ []) ∷ [])
    ≡ replicate 4 (Some table.Asset)
unfolding digits first_unsound
unsound_assets = refl

-- piece: beyond the end of the link, a millimetre twice, a millimetre of another route, routes out of order, a name twice.
pub unsound_pieces : faults (
    with_routes (first_route (span 10 5 16 B ∷ []) ∷ bare_route b1 (forth 3 0 5 ∷ []) 5 refl ∷ [])
    ∷ with_routes (first_route (span 10 5 16 B ∷ []) ∷ bare_route b1 (forth 3 0 3 ∷ back 3 2 4 ∷ []) 5 refl ∷ [])
    ∷ with_routes (first_route (span 10 5 16 B ∷ []) ∷ bare_route b1 (forth 3 0 4 ∷ back 2 0 1 ∷ []) 5 refl ∷ [])
    ∷ with_routes (bare_route b1 (forth 3 0 4 ∷ []) 4 refl ∷ first_route (span 10 5 16 B ∷ []) ∷ [])
    ∷ with_routes (first_route (span 10 5 16 B ∷ []) ∷ bare_route a1 (forth 3 0 4 ∷ []) 4 refl ∷ []) ∷ [])
    ≡ replicate 5 (Some table.Piece)
unfolding digits first_unsound
unsound_pieces = refl

-- With nothing wrong, the second route is sound.
pub sound_second_route : faults (with_routes (first_route (span 10 5 16 B ∷ []) ∷ bare_route b1 (forth 3 0 4 ∷ []) 4 refl ∷ []) ∷ []) ≡ None ∷ []
unfolding digits first_unsound
sound_second_route = refl

-- span: beyond the end of the course, of an asset that is not there, of another class than its asset, one row as two, no millimetre, out of order, two assets of an exclusive class on one place.
pub unsound_spans : faults (
    with_spans (span 10 5 17 B ∷ []) ∷ with_spans (span 10 5 16 B ∷ span 11 0 1 B ∷ [])
    ∷ with_spans (record (span 10 5 16 B) { class = rail } ∷ []) ∷ with_spans (span 10 5 8 B ∷ span 10 8 16 B ∷ [])
    ∷ with_spans (span 10 3 3 B ∷ span 10 5 16 B ∷ []) ∷ with_spans (span 10 12 16 B ∷ span 10 5 11 B ∷ [])
    ∷ record (with_spans (span 10 5 16 B ∷ span 11 3 6 L ∷ [])) { assets = asset_row 10 speed 0 ∷ asset_row 11 speed 0 ∷ [] } ∷ [])
    ≡ replicate 7 (Some table.Span)
unfolding digits first_unsound
unsound_spans = refl

-- entered: a part twice, two parts with a place in common, out of order, without a millimetre, of a link or an asset that is not there.
pub unsound_entered : faults (
    with_entered (part 1 5 10 Left ∷ part 1 5 10 Left ∷ part 1 5 10 Right ∷ part 2 0 6 Left ∷ part 2 0 6 Right ∷ [])
    ∷ with_entered (part 1 5 10 Left ∷ part 1 5 10 Right ∷ part 1 7 10 Left ∷ part 2 0 6 Left ∷ part 2 0 6 Right ∷ [])
    ∷ with_entered (part 1 5 10 Right ∷ part 1 5 10 Left ∷ part 2 0 6 Left ∷ part 2 0 6 Right ∷ [])
    ∷ with_entered (part 1 4 4 Left ∷ entered_rows) ∷ with_entered (entered_rows ++ part 4 0 1 Left ∷ [])
    ∷ with_entered (entered_rows ++ record (part 3 0 1 Left) { asset = 11 } ∷ []) ∷ [])
    ≡ replicate 6 (Some table.Entered)
unfolding digits first_unsound
unsound_entered = refl

-- entered: an asset may have 20,000,000,000 places in all, as both sides of ten links of a thousand kilometres, and no more.
abbrev pub long_links : List Link
long_links =
    link_row 1 1_000_000_000 refl ∷ link_row 2 1_000_000_000 refl ∷ link_row 3 1_000_000_000 refl ∷ link_row 4 1_000_000_000 refl ∷ link_row 5 1_000_000_000 refl
    ∷ link_row 6 1_000_000_000 refl ∷ link_row 7 1_000_000_000 refl ∷ link_row 8 1_000_000_000 refl ∷ link_row 9 1_000_000_000 refl ∷ link_row 10 1_000_000_000 refl
    ∷ link_row 11 1 refl ∷ []

abbrev pub all_places_of_ten : List Part
all_places_of_ten = flat_map (λ k. part k 0 1_000_000_000 Left ∷ part k 0 1_000_000_000 Right ∷ []) (range_with_len 1 10)

-- With one place more they are too many.
pub most_places_of_an_asset : map (are_entered long_links (asset_row 10 speed 0 ∷ [])) (all_places_of_ten ∷ (all_places_of_ten ++ part 11 0 1 Left ∷ []) ∷ []) ≡ true ∷ false ∷ []
most_places_of_an_asset = refl

-- gone: what was entered is neither held nor gone, what is gone was never entered, or is still held, also by an edit that is not there, or goes twice; and a held place that was never entered.
pub unsound_gone : faults (
    with_entered (part 1 5 10 Left ∷ part 1 5 10 Right ∷ part 2 0 6 Left ∷ [])
    ∷ with_gone (gone_part false (part 1 0 1 Left) ∷ []) ∷ with_gone (gone_part false (record (part 1 0 1 Left) { edit = 9 }) ∷ []) ∷ with_gone (gone_part false (part 1 5 6 Left) ∷ [])
    ∷ record gone_image { gone = gone_part false (part 1 5 10 Left) ∷ gone_part true (part 1 5 10 Left) ∷ gone_part true (part 1 5 10 Right) ∷ [] }
    ∷ record gone_image { gone = gone_part true (part 1 5 10 Left) ∷ gone_part false (part 1 5 10 Right) ∷ [] }
    ∷ with_spans (span 10 4 16 B ∷ []) ∷ with_spans (span 10 6 16 B ∷ []) ∷ with_spans [] ∷ [])
    ≡ replicate 9 (Some table.Gone)
unfolding digits first_unsound
unsound_gone = refl

-- edit: a ledger names an edit that is not there, or edit 0; a key twice.
pub unsound_edits : faults (
    record gone_image { gone = gone_part false (record (part 1 5 10 Left) { edit = 9 }) ∷ gone_part false (record (part 1 5 10 Right) { edit = 9 }) ∷ [] }
    ∷ record gone_image { gone = gone_part false (record (part 1 5 10 Left) { edit = 0 }) ∷ gone_part false (record (part 1 5 10 Right) { edit = 0 }) ∷ [] }
    ∷ with_edits (sheet ++ sheet) ∷ [])
    ≡ replicate 3 (Some table.Edit)
unfolding digits first_unsound
unsound_edits = refl

-- origin: an edit that entered another asset or none; an asset that was never entered, nor held; entered by two edits.
pub unsound_origins : faults (
    with_assets (record (asset_row 10 speed 0) { entered_by = 9 } ∷ []) ∷ with_assets (record (asset_row 10 speed 0) { entered_by = 0 } ∷ [])
    ∷ with_assets (asset_row 10 speed 0 ∷ asset_row 11 speed 0 ∷ []) ∷ with_assets (asset_row 10 speed 0 ∷ record (asset_row 11 speed 0) { entered_by = 0 } ∷ [])
    ∷ with_entered (record (part 1 5 10 Left) { edit = 7 } ∷ part 1 5 10 Right ∷ part 2 0 6 Left ∷ part 2 0 6 Right ∷ [])
    ∷ record superseded_image { assets = asset_row 10 speed 0 ∷ record (asset_row 12 speed 0) { value = codes "50" } ∷ [] } ∷ [])
    ≡ replicate 6 (Some table.Origin)
unfolding digits first_unsound
unsound_origins = refl

-- Of several unsound tables the first in their order is named.
pub first_unsound_table : faults (
    record (with_links (link_row 2 6 refl ∷ link_row 1 10 refl ∷ [])) { assets = []; edits = [] }
    ∷ record (with_assets []) { entered = []; edits = [] } ∷ record (with_spans (span 10 5 17 B ∷ [])) { entered = []; edits = [] }
    ∷ record (with_entered []) { edits = [] } ∷ record (with_assets (record (asset_row 10 speed 0) { entered_by = 7 } ∷ [])) { edits = [] } ∷ [])
    ≡ Some table.Link ∷ Some table.Span ∷ Some table.Span ∷ Some table.Gone ∷ Some table.Edit ∷ []
unfolding digits first_unsound
first_unsound_table = refl
