use Rattle.std.proofs.Common.{◌≡◌, ◌&&◌}
use Rattle.std.specs.Prelude.{nat_le, nat_lt}
use Rattle.std.proofs.lemmas.Result.{IfOk-weaker}
use Rattle.lrs_events.specs.declared.span.Span.{Span}
use Rattle.lrs_events.specs.Changes.{has_row}
use Rattle.lrs_events.proofs.RouteSpans.Gathering.{at_ranked, at_rows}
use Rattle.lrs_events.proofs.spans.overlaps.at.Goals as goal

pub in_order-requires : goal.in_order-requires
in_order-requires c =
    at_ranked c.args.rows.now c.args.lanes.now c.requires.kept c.args.j c.saturating_add.result c.saturating_add.ensures c.in_ok-found.found.items c.in_ok-found.ensures

pub returns-clause-found : goal.returns-clause-found
returns-clause-found c =
    IfOk-weaker c.in_order.result (λ found. (r : Span) → has_row found.items r ≡ has_row c.in_ok-found.found.items r)
    (λ found. (r : Span) → has_row found.items r ≡ (has_row c.args.rows.now r && (nat_le r.from c.args.j && nat_lt c.args.j r.to)))
    (λ found h. at_rows c.args.rows.now c.args.lanes.now c.requires.kept c.args.j c.saturating_add.result c.saturating_add.ensures c.in_ok-found.found.items c.in_ok-found.ensures found.items h)
    c.in_order.ensures.same
