-- The rows of a whole inventory: a function of the courses and of what is held, and as few as can be (ISO 19148: linearly located event).
use Rattle.std.specs.Prelude.{◌≡◌, ◌≢◌, ◌↔◌, ℕ, ◌+◌, ◌<◌, ◌≤◌, Option, Some, slice_get, Bool, true, ◌&&◌, not, nat_eq, List, [], map, filter, length, unwrap_or, slice_range}
use Rattle.std.specs.List.{list_any, list_all, flat_map}
use Rattle.std.specs.Option.{option_map, option_and_then}
use Rattle.lrs_measure.specs.Lists.{each_two}
use Rattle.lrs_measure.specs.Runs.{Run}
use Rattle.lrs_measure.specs.Texts.{Name, same_name}
use Rattle.lrs_element.specs.declared.link.Ground.{Ground}
use Rattle.lrs_element.specs.Course.{meets}
use Rattle.lrs_events.specs.declared.side.Side.{Side}
use Rattle.lrs_events.specs.declared.span.Span.{Span}
use Rattle.lrs_events.specs.Canonical.{side_held, canonical_rows}
use Rattle.lrs_events.specs.Places.{Place, places_on, is_among}
use Rattle.lrs_events.specs.Spans.{same_side}
use Rattle.lrs_machine.specs.declared.image.Image.{Image}
use Rattle.lrs_machine.specs.Image.{state_of}
use Rattle.lrs_machine.specs.Register.{get}
use Rattle.lrs_machine.specs.Sound.{IsSound}
use Rattle.lrs_machine.specs.State.{State}

-- A row of an inventory: on the linear element of this name, from one chainage up to the other, the asset is on this side of
-- the course or on both. The class of the asset is no part of the row.
pub record Row : Type 0 where
  pub route : Name
  pub asset : ℕ
  pub from : ℕ
  pub to : ℕ
  pub side : Side

-- a row that is kept with a route, without the class
abbrev pub row_on : Name → Span → Row
row_on route r = record { route = route; asset = r.asset; from = r.from; to = r.to; side = r.side }

-- the rows of all routes, one route after the other
abbrev pub rows_of_inventory : Image → List Row
rows_of_inventory i = flat_map (λ e. map (row_on e.route.name) e.spans) i.routes

-- ---- what rows are a function of

-- the course of the route of each name; it has no millimetre where there is no such route
abbrev pub Courses : Type 0
Courses = Name → List Ground

-- what is held: whether an asset holds a place
abbrev pub Holds : Type 0
Holds = ℕ → Place → Bool

-- the courses in a state
abbrev pub courses_in : State → Courses
courses_in s route = unwrap_or (option_map (λ a. a.course) (get s.routes route)) []

-- Both states have the same courses, and the same is held. All else may differ: classes, values, marks, referents and ledgers.
pub record HoldAlike (s t : State) : Type 0 where
  pub courses : (route : Name) → courses_in s route ≡ courses_in t route
  pub holds : (asset : ℕ) (p : Place) → s.holds asset p ≡ t.holds asset p

-- ---- the rows are the maximal runs of what is held

-- a row without its route and its asset
abbrev pub run_of_row : Row → Run Side
run_of_row r = record { from = r.from; to = r.to; value = r.side }

-- the rows of the asset on the route, among these
abbrev pub rows_of_each : Name → ℕ → List Row → List Row
rows_of_each route asset rows = filter (λ r. same_name r.route route && nat_eq r.asset asset) rows

-- the canonical rows of the asset on the route, read of the courses and of what is held
abbrev pub canonical : Courses → Holds → Name → ℕ → List (Run Side)
canonical courses holds route asset = canonical_rows (holds asset) (courses route)

-- The rows of each asset on each route are its canonical rows there.
abbrev pub RowsAreTheRuns : Type 0
RowsAreTheRuns = (i : Image) → IsSound i → (route : Name) (asset : ℕ)
    → map run_of_row (rows_of_each route asset (rows_of_inventory i)) ≡ canonical (courses_in (state_of i)) (state_of i).holds route asset

-- ---- equal courses and equal holdings give equal rows

-- Sound images with the same courses that hold the same have the same rows of each asset on each route, in the same order.
abbrev pub SameRowsOfEach : Type 0
SameRowsOfEach = (i j : Image) → IsSound i → IsSound j → HoldAlike (state_of i) (state_of j) → (route : Name) (asset : ℕ)
    → rows_of_each route asset (rows_of_inventory i) ≡ rows_of_each route asset (rows_of_inventory j)

abbrev pub same_row : Row → Row → Bool
same_row r s = same_name r.route s.route && nat_eq r.asset s.asset && nat_eq r.from s.from && nat_eq r.to s.to && same_side r.side s.side

-- whether the row is one of these
abbrev pub has_row : List Row → Row → Bool
has_row rows r = list_any (same_row r) rows

-- So they have the same rows, compared as sets.
abbrev pub SameRows : Type 0
SameRows = (i j : Image) → IsSound i → IsSound j → HoldAlike (state_of i) (state_of j) → (r : Row) → has_row (rows_of_inventory i) r ≡ has_row (rows_of_inventory j) r

-- ---- the rows are the maximal stretches, chainage by chainage

-- On which side or sides of the course the asset holds the places of the millimetre at this chainage: on none where it holds
-- neither, and on none off the course.
abbrev pub side_at : Courses → Holds → Name → ℕ → ℕ → Option Side
side_at courses holds route asset chainage = option_and_then (side_held (holds asset)) (slice_get (courses route) chainage)

-- The row has a millimetre; at each of its millimetres the asset is on the row's side or sides and on no other; and that is
-- not so at the millimetre before the row, nor at the one behind it.
pub record IsMaximal (courses : Courses) (holds : Holds) (r : Row) : Type 0 where
  pub some : r.from < r.to
  pub held : (j : ℕ) → r.from ≤ j → j < r.to → side_at courses holds r.route r.asset j ≡ Some r.side
  pub before : (j : ℕ) → j + 1 ≡ r.from → side_at courses holds r.route r.asset j ≢ Some r.side
  pub behind : side_at courses holds r.route r.asset r.to ≢ Some r.side

-- A sound image has all maximal stretches of what is held as its rows, and no other rows.
abbrev pub RowsAreMaximal : Type 0
RowsAreMaximal = (i : Image) → IsSound i → (r : Row)
    → (has_row (rows_of_inventory i) r ≡ true) ↔ IsMaximal (courses_in (state_of i)) (state_of i).holds r

-- ---- no shorter list stands for the same

-- the millimetres of the course under a row; a row that ends behind the course has those up to the end of the course
abbrev pub ground_under : Courses → Row → List Ground
ground_under courses r = slice_range (courses r.route) r.from r.to

-- a row holds, for its asset, the places on its side or sides of the millimetres under it
abbrev pub holds_by_row : Courses → Row → Holds
holds_by_row courses r asset p = nat_eq r.asset asset && is_among (places_on r.side (ground_under courses r)) p

-- on these courses, the rows hold what is held, and nothing else
abbrev pub StandsFor : Courses → List Row → Holds → Type 0
StandsFor courses rows holds = (asset : ℕ) (p : Place) → list_any (λ r. holds_by_row courses r asset p) rows ≡ holds asset p

-- the two rows are not of one asset over one millimetre of the ground
abbrev pub are_off : Courses → Row → Row → Bool
are_off courses r s = not (nat_eq r.asset s.asset && meets (ground_under courses r) (ground_under courses s))

-- The rows stand for what the state holds, and no asset has two of them over one millimetre. Nothing else is asked of them:
-- a row may be empty, end behind its course, or name a route that is not there.
pub record Tells (rows : List Row) (s : State) : Type 0 where
  pub stands : StandsFor (courses_in s) rows s.holds
  pub off : each_two (are_off (courses_in s)) rows ≡ true

-- The rows of a sound image are such a list.
abbrev pub RowsStand : Type 0
RowsStand = (i : Image) → IsSound i → Tells (rows_of_inventory i) (state_of i)

-- the two rows are of one asset on one route, and start at one chainage
abbrev pub begin_alike : Row → Row → Bool
begin_alike r s = same_name r.route s.route && nat_eq r.asset s.asset && nat_eq r.from s.from

-- No two rows of a sound image have asset, route and start in common.
abbrev pub RowsBeginApart : Type 0
RowsBeginApart = (i : Image) → IsSound i → each_two (λ r s. not (begin_alike r s)) (rows_of_inventory i) ≡ true

-- each of the first rows has the asset, the route and the start of one of the second, and there are no more of the first
pub record IsFewest (xs ys : List Row) : Type 0 where
  pub starts : list_all (λ r. list_any (begin_alike r) ys) xs ≡ true
  pub fewest : length xs ≤ length ys

-- No list of rows that tells the same is shorter than that of a sound image, and each row of the image begins where one of
-- that list does.
abbrev pub NoneIsShorter : Type 0
NoneIsShorter = (i : Image) (rows : List Row) → IsSound i → Tells rows (state_of i) → IsFewest (rows_of_inventory i) rows

-- Sound images with the same courses that hold the same have equally many rows.
abbrev pub AsMany : Type 0
AsMany = (i j : Image) → IsSound i → IsSound j → HoldAlike (state_of i) (state_of j) → length (rows_of_inventory i) ≡ length (rows_of_inventory j)
