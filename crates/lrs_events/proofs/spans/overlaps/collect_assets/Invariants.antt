use Rattle.std.proofs.Common.{◌≡◌, ◌&&◌, take}
use Rattle.lrs_events.specs.declared.span.Span.{Span}
use Rattle.lrs_events.specs.Changes.{has_row}
use Rattle.lrs_events.specs.RouteSpans.Overlaps.{is_with}
use Rattle.lrs_events.proofs.spans.overlaps.collect_assets.Given as goal

abbrev pub invariant-loop-i : goal.invariant-loop-i
invariant-loop-i l = (r : Span) → has_row l.found.items r ≡ (has_row l.rows r && is_with l.class (take l.i l.met) r)
