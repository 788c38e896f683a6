use Rattle.std.proofs.Common.{◌≡◌, true, filter}
use Rattle.lrs_measure.specs.Lists.{each_two}
use Rattle.lrs_events.specs.declared.span.Span.{Span}
use Rattle.lrs_events.specs.Changes.{has_row}
use Rattle.lrs_events.specs.Spans.{span_before}
use Rattle.lrs_events.specs.RouteSpans.Overlaps.{is_met_asset}
use Rattle.lrs_events.proofs.RouteSpans.Gathering.{has_sorted, assets_ranked, assets_rows, if_both}
use Rattle.lrs_events.proofs.spans.overlaps.of_assets_met.Goals as goal

pub in_order-requires : goal.in_order-requires
in_order-requires c =
    assets_ranked c.args.rows.now c.args.lanes.now c.requires.kept c.args.class c.args.low c.args.high c.in_ok-met.met.items c.in_ok-met.ensures c.deref.result.now c.in_ok-all.all.items
    (has_sorted c.in_ok-met.met.items c.deref.result.now c.sort.new.rows.items c.sort.ensures.same c.deref.ensures.value) c.in_ok-all.ensures

pub returns : goal.returns
returns c =
    let rows = c.args.rows.now in
    if_both c.in_order.result (λ found. each_two span_before found.items ≡ true) (λ found. (r : Span) → has_row found.items r ≡ has_row c.in_ok-all.all.items r)
    (λ found. found.items ≡ filter (λ r. is_met_asset rows c.args.class c.args.low c.args.high r.class r.asset) rows)
    (λ found s h.
    assets_rows rows c.args.lanes.now c.requires.kept c.args.class c.args.low c.args.high c.in_ok-met.met.items c.in_ok-met.ensures c.deref.result.now c.in_ok-all.all.items
    (has_sorted c.in_ok-met.met.items c.deref.result.now c.sort.new.rows.items c.sort.ensures.same c.deref.ensures.value) c.in_ok-all.ensures found.items s h)
    c.in_order.ensures.order c.in_order.ensures.same
