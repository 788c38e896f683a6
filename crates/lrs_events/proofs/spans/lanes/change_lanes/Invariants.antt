use Rattle.std.proofs.Common.{◌≤◌, vec_capacity}
use Rattle.lrs_events.proofs.RouteSpans.Tying.{HasChanged}
use Rattle.lrs_events.proofs.spans.lanes.change_lanes.Given as goal

abbrev pub invariant-loop-i : goal.invariant-loop-i
invariant-loop-i l = record {
  changed : HasChanged l.gone l.come l.i l.fn.lanes.items l.lanes.items;
  capacity : vec_capacity l.fn.picked ≤ vec_capacity l.picked;
}
