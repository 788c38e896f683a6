-- The order in which the rows of a route are told: that of the road.
use Rattle.std.specs.Prelude.{ℕ, Bool, ◌||◌, ◌&&◌, nat_eq, nat_lt, List, []}
use Rattle.lrs_measure.specs.OrderedLists.{insert_all}
use Rattle.lrs_measure.specs.Texts.{name_before, same_name}
use Rattle.lrs_events.specs.declared.side.Side.{Side}
use Rattle.lrs_events.specs.declared.side.Side.TheVariants.{L, R, B}
use Rattle.lrs_events.specs.declared.span.Span.{Span}
use Rattle.lrs_events.specs.Spans.{same_side}

-- the left side, then the right one, then both
abbrev pub side_rank : Side → ℕ
side_rank L = 0
side_rank R = 1
side_rank B = 2

-- by class, then asset
abbrev pub holder_before : Span → Span → Bool
holder_before r s = name_before r.class s.class || (same_name r.class s.class && nat_lt r.asset s.asset)

-- by side, then class and asset
abbrev pub side_before : Span → Span → Bool
side_before r s = nat_lt (side_rank r.side) (side_rank s.side) || (same_side r.side s.side && holder_before r s)

-- by the chainage at which the rows begin, then side, class and asset
abbrev pub road_before : Span → Span → Bool
road_before r s = nat_lt r.from s.from || (nat_eq r.from s.from && side_before r s)

-- the rows, sorted so
abbrev pub in_road_order : List Span → List Span
in_road_order rows = insert_all road_before rows []
