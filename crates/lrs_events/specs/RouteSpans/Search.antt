-- What is found of the rows of a route.
use Rattle.std.specs.Prelude.{◌≡◌, ℕ, ◌<◌, ◌≤◌, true, false, min, List, filter, length, slice_index_or, Option, Some, None}
use Rattle.lrs_measure.specs.Texts.{Name}
use Rattle.lrs_events.specs.declared.side.Side.{Side}
use Rattle.lrs_events.specs.declared.side.Side.TheVariants.{L, R}
use Rattle.lrs_events.specs.declared.side.LinkSide.{LinkSide}
use Rattle.lrs_events.specs.declared.side.LinkSide.TheVariants.{Left, Right}
use Rattle.lrs_events.specs.declared.span.Span.{Span}
use Rattle.lrs_events.specs.Members.{has_side, is_member}
use Rattle.lrs_events.specs.LaneLists.Lane.{is_met}
use Rattle.lrs_events.specs.declared.spans.lanes.ClassLanes.{ClassLanes}
use Rattle.lrs_events.specs.RouteSpans.LanesOfRows.{has_lanes, IsLaneOf}

-- the lanes of the class are there, or it has none
pub record IsPlaceOf (lanes : List ClassLanes) (class : Name) (at : ℕ) : Type 0 where
  pub within : at ≤ length lanes
  pub there : (d : ClassLanes) → at < length lanes → (slice_index_or lanes at d).class ≡ class
  pub nowhere : length lanes ≤ at → has_lanes lanes class ≡ false

-- some rows of a lane, in its order, and with them all that have a millimetre of the stretch
abbrev pub AreNear : List Span → Name → LinkSide → ℕ → ℕ → List Span → Type 0
AreNear rows class side from to near = (lane : List Span) × IsLaneOf rows class side lane × (filter (is_met from to) near ≡ filter (is_met from to) lane)

-- the side of a course that has one side of it
abbrev pub one_side : LinkSide → Side
one_side Left = L
one_side Right = R

-- the asset of the class holds a millimetre of the stretch on a side that is asked for
pub record HoldsOver (rows : List Span) (class : Name) (from to : ℕ) (side : Side) (asset : ℕ) : Type 0 where
  pub at : ℕ
  pub on : LinkSide
  pub low : from ≤ at
  pub high : at < to
  pub on_side : has_side side on ≡ true
  pub held : is_member rows class asset at on ≡ true

-- ... and no lesser asset does
pub record IsFirstOver (rows : List Span) (class : Name) (from to : ℕ) (side : Side) (asset : ℕ) : Type 0 where
  pub here : HoldsOver rows class from to side asset
  pub least : (other : ℕ) → HoldsOver rows class from to side other → asset ≤ other

-- the least asset of the class with a millimetre of the stretch on a side that is asked for
abbrev pub IsOver : List Span → Name → ℕ → ℕ → Side → Option ℕ → Type 0
IsOver rows class from to side None = (asset : ℕ) → HoldsOver rows class from to side asset → ⊥
IsOver rows class from to side (Some asset) = IsFirstOver rows class from to side asset

-- the lesser of two, where there are any
abbrev pub lesser_of : Option ℕ → Option ℕ → Option ℕ
lesser_of (Some a) (Some b) = Some (min a b)
lesser_of (Some a) None = Some a
lesser_of None b = b
