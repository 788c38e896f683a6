use Rattle.std.proofs.Common.{ℕ, ◌<◌, get_or}
use Rattle.lrs_events.specs.declared.spans.lanes.ClassLanes.{ClassLanes}
use Rattle.lrs_events.specs.RouteSpans.OpenRows.{SameLanes, HasLaneRoom}
use Rattle.lrs_events.proofs.spans.lanes.make_lanes_room.Given as goal

abbrev pub invariant-loop-i : goal.invariant-loop-i
invariant-loop-i l = record {
  same : SameLanes l.fn.lanes.items l.lanes.items;
  room : (k : ℕ) (d : ClassLanes) → k < l.i → HasLaneRoom l.come (get_or l.lanes.items k d);
}
