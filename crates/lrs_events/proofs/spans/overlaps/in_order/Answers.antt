use Rattle.std.proofs.Common.{◌≡◌, ◌∙◌}
use Rattle.std.proofs.lemmas.Result.{IfOk-weaker}
use Rattle.lrs_events.specs.declared.span.Span.{Span}
use Rattle.lrs_events.specs.Changes.{has_row}
use Rattle.lrs_events.specs.RouteSpans.Overlaps.{goes_before}
use Rattle.lrs_events.proofs.RouteSpans.Gathering.{has_sorted, ranked_sorted}
use Rattle.lrs_events.proofs.spans.overlaps.in_order.Goals as goal

pub strict-requires-clause-ranked : goal.strict-requires-clause-ranked
strict-requires-clause-ranked c = ranked_sorted (goes_before c.args.by) c.args.rows.items c.deref.result.now c.sort.new.rows.items c.sort.ensures.same c.deref.ensures.value c.requires

pub returns-clause-same : goal.returns-clause-same
returns-clause-same c =
    IfOk-weaker c.strict.result (λ found. (r : Span) → has_row found.items r ≡ has_row c.deref.result.now r) (λ found. (r : Span) → has_row found.items r ≡ has_row c.args.rows.items r)
    (λ found h r. h r ∙ has_sorted c.args.rows.items c.deref.result.now c.sort.new.rows.items c.sort.ensures.same c.deref.ensures.value r) c.strict.ensures.same
