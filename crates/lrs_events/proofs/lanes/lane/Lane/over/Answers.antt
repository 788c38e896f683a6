use Rattle.lrs_events.specs.LaneLists.Lane.{is_met}
use Rattle.lrs_events.proofs.LaneLists.Lanes.{least_by_filter}
use Rattle.lrs_events.proofs.lanes.lane.Lane.over.Goals as goal

pub returns : goal.returns
returns c =
    least_by_filter (is_met c.args.low c.args.high) c.near.result.now c.args.self.now.rows c.least_met.result c.near.ensures c.least_met.ensures
