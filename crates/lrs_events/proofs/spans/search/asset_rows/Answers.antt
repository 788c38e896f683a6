use Rattle.std.proofs.Common.{refl}
use Rattle.lrs_events.specs.declared.side.Side.TheVariants.{B}
use Rattle.lrs_events.proofs.RouteSpans.Finding.{asset_slice}
use Rattle.lrs_events.proofs.spans.search.asset_rows.Goals as goal

pub returns : goal.returns
returns c =
    asset_slice c.args.rows.now (record { asset = c.args.asset; class = c.args.class; from = 0; to = 10_000_000_000; side = B }) c.requires refl refl
    c.rows_on-start.result.0 c.rows_on-start.result.1 c.rows_on-start.ensures.order c.rows_on-start.ensures.stretch
