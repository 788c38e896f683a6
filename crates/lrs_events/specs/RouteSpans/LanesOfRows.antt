-- How lanes stand for the rows of a route.
use Rattle.std.specs.Prelude.{◌≡◌, ℕ, ◌<◌, Bool, true, ◌&&◌, List, length, slice_index_or}
use Rattle.std.specs.List.{list_any}
use Rattle.lrs_measure.specs.Lists.{each_two}
use Rattle.lrs_measure.specs.Texts.{Name, same_name}
use Rattle.lrs_events.specs.declared.side.LinkSide.{LinkSide}
use Rattle.lrs_events.specs.declared.side.LinkSide.TheVariants.{Left, Right}
use Rattle.lrs_events.specs.declared.span.Span.{Span}
use Rattle.lrs_events.specs.Changes.{has_row}
use Rattle.lrs_events.specs.Members.{has_side}
use Rattle.lrs_events.specs.Spans.{are_rows}
use Rattle.lrs_events.specs.LaneLists.Order.{place_before}
use Rattle.lrs_events.specs.declared.spans.lanes.ClassLanes.{ClassLanes}

-- whether the row is of the class and on the side of the route
abbrev pub is_on : Name → LinkSide → Span → Bool
is_on class s r = same_name r.class class && has_side r.side s

-- the rows of a class with a side of the route or both, each once, in the order of places
pub record IsLaneOf (rows : List Span) (class : Name) (side : LinkSide) (lane : List Span) : Type 0 where
  pub has : (r : Span) → has_row lane r ≡ (has_row rows r && is_on class side r)
  pub in_order : each_two place_before lane ≡ true

-- the lanes of a class have its rows, in the order of places
pub record IsClass (rows : List Span) (l : ClassLanes) : Type 0 where
  pub left : (r : Span) → has_row l.left.rows r ≡ (has_row rows r && is_on l.class Left r)
  pub right : (r : Span) → has_row l.right.rows r ≡ (has_row rows r && is_on l.class Right r)
  pub left_order : each_two place_before l.left.rows ≡ true
  pub right_order : each_two place_before l.right.rows ≡ true

-- whether a class has lanes among these
abbrev pub has_lanes : List ClassLanes → Name → Bool
has_lanes lanes class = list_any (λ (l : ClassLanes). same_name l.class class) lanes

-- the lanes have the rows, each row's class has lanes, and no class has them twice
pub record AreTied (rows : List Span) (lanes : List ClassLanes) : Type 0 where
  pub each : (k : ℕ) (d : ClassLanes) → k < length lanes → IsClass rows (slice_index_or lanes k d)
  pub all : (r : Span) → has_row rows r ≡ true → has_lanes lanes r.class ≡ true
  pub once : (i j : ℕ) (d : ClassLanes) → i < j → j < length lanes → (slice_index_or lanes i d).class ≡ (slice_index_or lanes j d).class → ⊥

-- canonical rows, and lanes tied to them
pub record AreKept (rows : List Span) (lanes : List ClassLanes) : Type 0 where
  pub canonical : are_rows rows ≡ true
  pub tied : AreTied rows lanes
