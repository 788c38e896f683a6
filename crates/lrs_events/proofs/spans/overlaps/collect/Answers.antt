use Rattle.lrs_events.specs.RouteSpans.Overlaps.{met_in}
use Rattle.lrs_events.proofs.RouteSpans.Pushes.{mapped_more}
use Rattle.lrs_events.proofs.spans.overlaps.collect.Goals as goal

pub loop-of-preserved : goal.loop-of-preserved
loop-of-preserved c =
    mapped_more (met_in c.args.low c.args.high) c.args.lanes.now c.loop-of.of-index c.of-item.result c.loop-of.found.items c.push_class.new.found.items c.loop-of-test.true c.of-item.is c.loop-of.invariant
    c.in_ok-push_class.ensures
