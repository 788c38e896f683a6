-- What becomes of the rows of a route of which a stretch is replaced.
use Rattle.std.specs.Prelude.{◌≡◌, ℕ, true, List}
use Rattle.lrs_events.specs.declared.span.Span.{Span}
use Rattle.lrs_events.specs.Changes.{changed_rows}
use Rattle.lrs_events.specs.Spans.{are_rows}
use Rattle.lrs_events.specs.Row.Removals.{is_within, IsThat}
use Rattle.lrs_events.specs.RouteSpans.Plans.{IsPlan}
use Rattle.lrs_events.specs.RouteSpans.Realignment.{IsRealigned}
use Rattle.lrs_verbs.specs.declared.routes.realigned_rows.RealignedRows.{RealignedRows}

-- The change makes canonical rows of what stays, and what lay on the stretch is handed back as canonical rows.
pub record IsRealigning (from to len : ℕ) (rows : List Span) (r : RealignedRows) : Type 0 where
  pub plan : IsPlan rows r.change
  pub realigned : IsRealigned from to len rows (changed_rows r.change rows)
  pub left_rows : are_rows r.left.items ≡ true
  pub left : IsThat (λ class asset j s. is_within from to j) rows r.left.items
