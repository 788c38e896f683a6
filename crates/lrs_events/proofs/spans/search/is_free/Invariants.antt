use Rattle.std.proofs.Common.{take}
use Rattle.lrs_events.proofs.RouteSpans.SearchFree.{AreFree}
use Rattle.lrs_events.proofs.spans.search.is_free.Given as goal

abbrev pub invariant-loop-i : goal.invariant-loop-i
invariant-loop-i l = AreFree (take l.i l.lanes) l.rows l.span
