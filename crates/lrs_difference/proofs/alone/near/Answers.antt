use Rattle.lrs_difference.proofs.NearStretches.{near_nothing, near_slice}
use Rattle.lrs_difference.proofs.alone.near.Goals as goal

pub returns-then-start-end : goal.returns-then-start-end
returns-then-start-end c = near_slice c.args.edge.now c.args.held.now c.count_ahead-start.result c.count_begun-end.result c.count_ahead-start.ensures.point c.count_begun-end.ensures.point c.if-start-end.true

pub returns-else-start-end : goal.returns-else-start-end
returns-else-start-end c = near_nothing c.args.edge.now c.args.held.now c.count_ahead-start.result c.count_begun-end.result c.count_ahead-start.ensures.point c.count_begun-end.ensures.point c.if-start-end.false
