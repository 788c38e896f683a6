use Rattle.std.proofs.Common.{◌≡◌, true, take}
use Rattle.lrs_events.specs.declared.span.Span.{Span}
use Rattle.lrs_events.specs.Changes.{has_row}
use Rattle.lrs_events.specs.RouteSpans.LanesOfRows.{has_lanes}
use Rattle.lrs_events.specs.RouteSpans.OpenRows.{StayTied}
use Rattle.lrs_events.proofs.spans.lanes.add_classes.Given as goal

abbrev pub invariant-loop-row : goal.invariant-loop-row
invariant-loop-row l = record {
  tied : StayTied l.fn.lanes.items l.lanes.items;
  known : (r : Span) → has_row (take l.row-index l.come) r ≡ true → has_lanes l.lanes.items r.class ≡ true;
}
