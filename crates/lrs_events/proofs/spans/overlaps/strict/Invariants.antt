use Rattle.lrs_events.specs.RouteSpans.Overlaps.{goes_before}
use Rattle.lrs_events.proofs.RouteSpans.Gathering.{AreGathered}
use Rattle.lrs_events.proofs.spans.overlaps.strict.Given as goal

abbrev pub invariant-loop-i : goal.invariant-loop-i
invariant-loop-i l = AreGathered (goes_before l.by) l.rows l.i l.found.items
