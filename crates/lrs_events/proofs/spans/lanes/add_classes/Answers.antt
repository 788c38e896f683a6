use Rattle.lrs_events.proofs.RouteSpans.Tying.{one_more_known}
use Rattle.lrs_events.proofs.spans.lanes.add_classes.Goals as goal

pub loop-row-preserved : goal.loop-row-preserved
loop-row-preserved c = record {
  tied = λ rows t. c.in_ok-add_class.ensures.tied rows (c.loop-row.invariant.tied rows t);
  known = one_more_known c.args.come.now c.loop-row.row-index c.row-item.result c.loop-row.lanes.items c.add_class.new.lanes.items c.loop-row-test.true c.row-item.is c.loop-row.invariant.known c.in_ok-add_class.ensures.others c.in_ok-add_class.ensures.ok;
}
