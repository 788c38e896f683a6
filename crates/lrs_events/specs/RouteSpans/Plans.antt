-- Plans: what a change would make of the rows of a route.
use Rattle.std.specs.Prelude.{◌≡◌, true, List}
use Rattle.lrs_measure.specs.Lists.{each_two}
use Rattle.lrs_events.specs.declared.span.Span.{Span}
use Rattle.lrs_events.specs.declared.change.SpanChange.{SpanChange}
use Rattle.lrs_events.specs.Changes.{changed_rows}
use Rattle.lrs_events.specs.Spans.{are_rows, span_before}
use Rattle.lrs_events.specs.Row.Changes.{IsChange}

-- The change makes canonical rows of these; a removed row is among them, and an inserted one is not.
pub record IsPlan (rows : List Span) (plan : SpanChange) : Type 0 where
  pub kept : are_rows (changed_rows plan rows) ≡ true
  pub change : IsChange rows plan.gone.items plan.come.items (changed_rows plan rows)
  pub in_order : each_two span_before plan.gone.items ≡ true
