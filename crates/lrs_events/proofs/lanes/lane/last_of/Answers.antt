use Rattle.lrs_events.proofs.LaneLists.Fronts.{last_is}
use Rattle.lrs_events.proofs.lanes.lane.last_of.Goals as goal

pub returns : goal.returns
returns c = last_is c.args.numbers.now
