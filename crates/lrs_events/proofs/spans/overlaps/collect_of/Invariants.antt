use Rattle.std.proofs.Common.{◌≡◌, take}
use Rattle.std.specs.List.{flat_map}
use Rattle.lrs_events.specs.RouteSpans.Overlaps.{met_of}
use Rattle.lrs_events.proofs.spans.overlaps.collect_of.Given as goal

abbrev pub invariant-loop-of : goal.invariant-loop-of
invariant-loop-of l = l.found.items ≡ flat_map (met_of l.class l.low l.high) (take l.of-index l.lanes)
