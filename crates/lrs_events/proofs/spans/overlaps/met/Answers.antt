use Rattle.std.proofs.Common.{◌≡◌, true, filter}
use Rattle.lrs_measure.specs.Lists.{each_two}
use Rattle.lrs_events.specs.declared.span.Span.{Span}
use Rattle.lrs_events.specs.Changes.{has_row}
use Rattle.lrs_events.specs.Spans.{span_before}
use Rattle.lrs_events.specs.Row.Removals.{is_met}
use Rattle.lrs_events.proofs.RouteSpans.Gathering.{met_ranked, met_rows, if_both}
use Rattle.lrs_events.proofs.spans.overlaps.met.Goals as goal

pub in_order-requires : goal.in_order-requires
in_order-requires c = met_ranked c.args.rows.now c.args.lanes.now c.requires.kept c.args.low c.args.high c.in_ok-found.found.items c.in_ok-found.ensures

pub returns : goal.returns
returns c =
    if_both c.in_order.result (λ found. each_two span_before found.items ≡ true) (λ found. (r : Span) → has_row found.items r ≡ has_row c.in_ok-found.found.items r) (λ found. found.items ≡ filter (is_met c.args.low c.args.high) c.args.rows.now)
    (λ found s h. met_rows c.args.rows.now c.args.lanes.now c.requires.kept c.args.low c.args.high c.in_ok-found.found.items c.in_ok-found.ensures found.items s h)
    c.in_order.ensures.order c.in_order.ensures.same
