use Rattle.std.proofs.Common.{◌≡◌, false, take}
use Rattle.lrs_events.specs.RouteSpans.LanesOfRows.{has_lanes}
use Rattle.lrs_events.proofs.spans.search.place_of.Given as goal

abbrev pub invariant-loop-i : goal.invariant-loop-i
invariant-loop-i l = has_lanes (take l.i l.lanes) l.class ≡ false
