use Rattle.std.proofs.Common.{take}
use Rattle.lrs_events.specs.LaneLists.Lane.{is_met, IsLeast}
use Rattle.lrs_events.proofs.lanes.lane.least_met.Given as goal

abbrev pub invariant-loop-row : goal.invariant-loop-row
invariant-loop-row l = IsLeast (is_met l.low l.high) (take l.row-index l.rows) l.least
