-- The rows of a route while they are open for a change, the room that they have, and what a change makes of their lanes.
use Rattle.std.specs.Prelude.{◌≡◌, ℕ, ◌+◌, ◌<◌, ◌≤◌, true, List, length, slice_index_or}
use Rattle.std.specs.List.{filter}
use Rattle.lrs_measure.specs.Lists.{each_two}
use Rattle.lrs_events.specs.declared.side.LinkSide.TheVariants.{Left, Right}
use Rattle.lrs_events.specs.declared.span.Span.{Span}
use Rattle.lrs_events.specs.Changes.{has_row, changed}
use Rattle.lrs_events.specs.LaneLists.Order.{place_before}
use Rattle.lrs_events.specs.declared.spans.lanes.ClassLanes.{ClassLanes}
use Rattle.lrs_events.specs.RouteSpans.LanesOfRows.{is_on, has_lanes, AreTied}

-- the rows, for how many rows in all there is room, and the lanes
pub record Opened : Type 0 where
  pub rows : List Span
  pub room : ℕ
  pub lanes : List ClassLanes

-- the lanes of a class have room for those of the inserted rows
pub record HasLaneRoom (come : List Span) (l : ClassLanes) : Type 0 where
  pub left : length (filter (is_on l.class Left) come) ≤ l.left.room
  pub right : length (filter (is_on l.class Right) come) ≤ l.right.room

-- each lane has room, and the class of each inserted row has lanes
pub record HaveRoom (come : List Span) (lanes : List ClassLanes) : Type 0 where
  pub each : (k : ℕ) (d : ClassLanes) → k < length lanes → HasLaneRoom come (slice_index_or lanes k d)
  pub all : (r : Span) → has_row come r ≡ true → has_lanes lanes r.class ≡ true

-- there is room for the inserted rows
pub record HasRoom (come : List Span) (o : Opened) : Type 0 where
  pub rows : length o.rows + length come ≤ o.room
  pub lanes : HaveRoom come o.lanes

-- lanes of the same class with the same rows
pub record SameClass (l m : ClassLanes) : Type 0 where
  pub class : m.class ≡ l.class
  pub left : m.left.rows ≡ l.left.rows
  pub right : m.right.rows ≡ l.right.rows

pub record SameLanes (xs ys : List ClassLanes) : Type 0 where
  pub count : length ys ≡ length xs
  pub each : (k : ℕ) (d : ClassLanes) → k < length xs → SameClass (slice_index_or xs k d) (slice_index_or ys k d)

-- lanes that are tied to rows stay so
abbrev pub StayTied : List ClassLanes → List ClassLanes → Type 0
StayTied xs ys = (rows : List Span) → AreTied rows xs → AreTied rows ys

-- what removed rows and inserted rows make of the lanes of a class
pub record IsChangedClass (gone come : List Span) (l m : ClassLanes) : Type 0 where
  pub class : m.class ≡ l.class
  pub left : m.left.rows ≡ changed place_before gone (filter (is_on l.class Left) come) l.left.rows
  pub right : m.right.rows ≡ changed place_before gone (filter (is_on l.class Right) come) l.right.rows

-- the lanes of a class have room for a change that leaves them in order
pub record CanChange (gone come : List Span) (l : ClassLanes) : Type 0 where
  pub room : HasLaneRoom come l
  pub left : each_two place_before (changed place_before gone (filter (is_on l.class Left) come) l.left.rows) ≡ true
  pub right : each_two place_before (changed place_before gone (filter (is_on l.class Right) come) l.right.rows) ≡ true

pub record AreChanged (gone come : List Span) (xs ys : List ClassLanes) : Type 0 where
  pub count : length ys ≡ length xs
  pub each : (k : ℕ) (d : ClassLanes) → k < length xs → IsChangedClass gone come (slice_index_or xs k d) (slice_index_or ys k d)
