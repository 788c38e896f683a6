-- Readings: totals, rows, who lies at a position, and the segments of a route.
use Rattle.std.specs.Prelude.{◌≡◌, ℕ, List, [], ◌∷◌, map, codes, Some, None, refl}
use Rattle.std.specs.Option.{option_map_or}
use Rattle.std.specs.Fmt.{digits}
use Rattle.lrs_measure.specs.Texts.{Name}
use Rattle.lrs_measure.specs.Runs.{Run}
use Rattle.lrs_element.specs.Course.{course_of}
use Rattle.lrs_events.specs.declared.class.Kind.TheVariants.{Exclusive}
use Rattle.lrs_events.specs.declared.side.Side.TheVariants.{L, R, B}
use Rattle.lrs_events.specs.declared.side.LinkSide.{LinkSide}
use Rattle.lrs_events.specs.declared.side.LinkSide.TheVariants.{Left, Right}
use Rattle.lrs_events.specs.Places.{is_among}
use Rattle.lrs_events.specs.Canonical.{canonical_rows}
use Rattle.lrs_machine.specs.declared.segment.SegFault.TheVariants.{NoClass, NotExclusive, SideB}
use Rattle.lrs_machine.specs.Segments.{Values, segment_fault}
use Rattle.lrs_machine.specs.declared.command.Command.TheVariants as verb
use Rattle.lrs_machine.specs.Register.{get}
use Rattle.lrs_machine.specs.Machine.{Record, attempt, step}
use Rattle.lrs_machine.specs.Readings.{rows_of, places_of, hits_at, segments_on}
use Rattle.lrs_examples.specs.Sheet.{a1, nowhere, km2, speed, rail, sign, abs, past, share, between, at, class, forth, plain, enter, supersede, realign, retire, adding, after, holders, totals_of, totals, row, route_of, place, first_pieces, first_classes, sheet, with_speed, with_sign, lower_limit}

-- totals

-- Entered on 11 millimetres and both sides, retired on 2 of them, abandoned on 2 others: what is present is the rest.
abbrev pub all_three : List Record
all_three = adding with_speed (retire 10 (between (abs 10) (abs 12)) ∷ realign 8 12 (forth 3 0 4 ∷ []) (plain 16) ∷ [])

-- 22 entered, four retired, four abandoned, and 14 present.
pub entered_retired_abandoned : totals_of speed (after all_three) ≡ totals 22 4 4 14
unfolding digits step attempt
entered_retired_abandoned = refl

-- Each class counts its own assets, on each side of a millimetre once, and a point once for each side.
abbrev pub three_classes : List Record
three_classes = adding with_speed (
    lower_limit ∷ enter 20 sign L (at (abs 18)) (codes "STOP") ∷ enter 21 sign B (at (abs 0)) (codes "GIVEWAY")
    ∷ enter 30 rail L (between (abs 0) (abs 12)) (codes "STEEL") ∷ enter 31 rail R (between (abs 6) (abs 18)) (codes "STEEL") ∷ [])

-- Two speed limits on both sides, of 11 and 5 millimetres.
pub speed_totals : totals_of speed (after three_classes) ≡ totals 32 0 0 32
unfolding digits step attempt
speed_totals = refl

-- A sign on one side, and one on both.
pub sign_totals : totals_of sign (after three_classes) ≡ totals 3 0 0 3
unfolding digits step attempt
sign_totals = refl

-- Two barriers of 10 and 11 millimetres, on one side each.
pub rail_totals : totals_of rail (after three_classes) ≡ totals 21 0 0 21
unfolding digits step attempt
rail_totals = refl

-- A class without assets, and one that is not there, have nothing.
pub no_totals : map (λ class. totals_of class (after sheet)) (speed ∷ codes "TREE" ∷ []) ≡ totals 0 0 0 0 ∷ totals 0 0 0 0 ∷ []
unfolding digits step attempt
no_totals = refl

-- places and rows

-- On the left of the route a barrier holds the left of the first link and the right of the second.
pub places_on_the_left : places_of (after (adding sheet (enter 30 rail L (between (abs 10) (abs 14)) (codes "STEEL") ∷ []))) 30
    ≡ place 1 8 Left ∷ place 1 9 Left ∷ place 2 4 Right ∷ place 2 5 Right ∷ []
unfolding digits step attempt
places_on_the_left = refl

-- A row is as long as it can be, over the seam of two links too; another side or a gap begins a new one.
pub longest_rows : canonical_rows (λ p. is_among (
    place 1 0 Left ∷ place 1 0 Right ∷ place 1 1 Left ∷ place 1 1 Right ∷ place 1 2 Left ∷ place 1 3 Left
    ∷ place 1 5 Right ∷ place 1 8 Left ∷ place 1 9 Left ∷ place 2 5 Right ∷ place 2 4 Left ∷ []) p)
    (course_of first_pieces)
    ≡ row 0 2 B ∷ row 2 4 L ∷ row 5 6 R ∷ row 8 11 L ∷ row 11 12 R ∷ []
longest_rows = refl

-- An asset has no rows on a route where it holds nothing, nor on one that is not there.
pub no_rows : map (λ name. rows_of (after with_sign) name 10) (a1 ∷ nowhere ∷ []) ≡ [] ∷ [] ∷ []
unfolding digits step attempt
no_rows = refl

-- An asset keeps its class, its value, its lateral offset and the edit that entered it, wherever it lies.
pub what_is_known : map (get (after (adding sheet (verb.Enter (record { asset = 30; class = rail; route = a1; side = L; location = between (abs 0) (abs 12); value = codes "STEEL"; offset = 300 }) ∷ verb.Close a1 ∷ []))).assets) (30 ∷ 31 ∷ [])
    ≡ Some (record { class = rail; value = codes "STEEL"; lateral = 300; entered_by = 8 }) ∷ None ∷ []
unfolding digits step attempt
what_is_known = refl

-- who lies at a position

-- At the end of the route stands the sign, on its left; the speed limit is on both sides, and the second barrier on the right.
pub at_the_end : holders three_classes (abs 18) ≡ Some ((10, 8, B) ∷ (20, 10, L) ∷ (31, 13, R) ∷ [])
unfolding digits step attempt
at_the_end = refl

-- At the seam it is the millimetre behind it that counts.
pub at_the_seam : holders three_classes (abs 12) ≡ Some ((10, 8, B) ∷ (31, 13, R) ∷ [])
unfolding digits step attempt
at_the_seam = refl

-- A stretch lies at its start and not at its end: one speed limit ends where the other begins.
pub where_they_touch : map (holders three_classes) (share 5 16 ∷ share 9 32 ∷ []) ≡ Some ((10, 8, B) ∷ (30, 12, L) ∷ (31, 13, R) ∷ []) ∷ Some ((11, 9, B) ∷ (30, 12, L) ∷ []) ∷ []
unfolding digits step attempt
where_they_touch = refl

-- Off the route, on a route that is not there, and from a referent that is not there, nothing can be told; where nothing lies, nothing is told.
pub nothing_there : hits_at (after with_sign) a1 (abs 19) ∷ hits_at (after with_sign) nowhere (abs 3) ∷ hits_at (after with_sign) a1 (past km2 0) ∷ hits_at (after with_sign) a1 (abs 3) ∷ []
    ≡ None ∷ None ∷ None ∷ Some [] ∷ []
unfolding digits step attempt
nothing_there = refl

-- segments

abbrev pub segments : List Record → List Name → LinkSide → List (Run Values)
segments records wanted side = option_map_or (λ a. segments_on (after records) a.course wanted side) (route_of (after records) a1) []

abbrev pub segment : ℕ → ℕ → Values → Run Values
segment from to values = record { from = from; to = to; value = values }

-- Half of the route has no speed limit on its right.
pub half_without : segments with_speed (speed ∷ []) Right ≡ segment 0 5 (None ∷ []) ∷ segment 5 16 (Some (codes "80") ∷ []) ∷ []
unfolding digits step attempt
half_without = refl

-- After a realignment, the replaced stretch has none.
pub none_where_realigned : segments (adding with_speed (verb.Recalibrate a1 (plain 16) ∷ realign 8 12 (forth 3 0 4 ∷ []) (plain 16) ∷ [])) (speed ∷ []) Right
    ≡ segment 0 5 (None ∷ []) ∷ segment 5 8 (Some (codes "80") ∷ []) ∷ segment 8 12 (None ∷ []) ∷ segment 12 16 (Some (codes "80") ∷ []) ∷ []
unfolding digits step attempt
none_where_realigned = refl

-- Two speed limits of one value are one segment.
pub equal_values : segments (adding with_speed (enter 11 speed B (between (abs 0) (abs 6)) (codes "80") ∷ [])) (speed ∷ []) Right ≡ segment 0 16 (Some (codes "80") ∷ []) ∷ []
unfolding digits step attempt
equal_values = refl

-- A segment ends where the value changes.
pub two_values : segments (adding with_speed (lower_limit ∷ [])) (speed ∷ []) Right ≡ segment 0 5 (Some (codes "60") ∷ []) ∷ segment 5 16 (Some (codes "80") ∷ []) ∷ []
unfolding digits step attempt
two_values = refl

-- Each side of the route has its own.
abbrev pub left_superseded : List Record
left_superseded = adding with_speed (supersede 12 speed L (between (abs 6) (abs 12)) (codes "50") ∷ [])

-- On the left the new value stands between.
pub on_the_left : segments left_superseded (speed ∷ []) Left ≡ segment 0 5 (None ∷ []) ∷ segment 5 10 (Some (codes "50") ∷ []) ∷ segment 10 16 (Some (codes "80") ∷ []) ∷ []
unfolding digits step attempt
on_the_left = refl

-- On the right the old value stands as before.
pub on_the_right : segments left_superseded (speed ∷ []) Right ≡ segment 0 5 (None ∷ []) ∷ segment 5 16 (Some (codes "80") ∷ []) ∷ []
unfolding digits step attempt
on_the_right = refl

-- Left and right are seen along the route, also where it runs backwards.
abbrev pub on_the_backward_piece : List Record
on_the_backward_piece = adding sheet (enter 10 speed L (between (abs 12) (abs 18)) (codes "80") ∷ [])

-- The speed limit is on the left ...
pub left_of_the_backward_piece : segments on_the_backward_piece (speed ∷ []) Left ≡ segment 0 10 (None ∷ []) ∷ segment 10 16 (Some (codes "80") ∷ []) ∷ []
unfolding digits step attempt
left_of_the_backward_piece = refl

-- ... and not on the right.
pub right_of_the_backward_piece : segments on_the_backward_piece (speed ∷ []) Right ≡ segment 0 16 (None ∷ []) ∷ []
unfolding digits step attempt
right_of_the_backward_piece = refl

-- Lanes and speed limits: a segment ends where either of them changes, in the order asked for.
abbrev pub with_lanes : List Record
with_lanes = adding with_speed (class (codes "LANE") Exclusive ∷ enter 40 (codes "LANE") B (between (abs 3) (abs 12)) (codes "2") ∷ [])

-- A lane begins at 3 and ends at 10, the speed limit begins at 5.
pub two_classes : segments with_lanes (codes "LANE" ∷ speed ∷ []) Right
    ≡ segment 0 3 (None ∷ None ∷ []) ∷ segment 3 5 (Some (codes "2") ∷ None ∷ []) ∷ segment 5 10 (Some (codes "2") ∷ Some (codes "80") ∷ []) ∷ segment 10 16 (None ∷ Some (codes "80") ∷ []) ∷ []
unfolding digits step attempt
two_classes = refl

-- A class that is asked for twice is there twice.
pub class_twice : segments with_speed (speed ∷ speed ∷ []) Right ≡ segment 0 5 (None ∷ None ∷ []) ∷ segment 5 16 (Some (codes "80") ∷ Some (codes "80") ∷ []) ∷ []
unfolding digits step attempt
class_twice = refl

-- With no class asked for there is nothing to change along the route.
pub no_class : segments with_speed [] Right ≡ segment 0 16 [] ∷ []
unfolding digits step attempt
no_class = refl

-- Barriers on one place may have two values, so only exclusive classes have segments, and on one side; a class that is not there is named first.
pub segment_refusals :
    segment_fault first_classes (rail ∷ codes "TREE" ∷ []) R
    ∷ segment_fault first_classes (speed ∷ rail ∷ []) R
    ∷ segment_fault first_classes (speed ∷ rail ∷ sign ∷ []) B
    ∷ segment_fault first_classes (speed ∷ []) B
    ∷ segment_fault first_classes (speed ∷ []) R ∷ []
    ≡ Some (NoClass 1) ∷ Some (NotExclusive 1) ∷ Some (NotExclusive 1) ∷ Some SideB ∷ None ∷ []
segment_refusals = refl
