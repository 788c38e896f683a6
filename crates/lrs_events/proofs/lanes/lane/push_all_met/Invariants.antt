use Rattle.std.proofs.Common.{◌≡◌, ◌++◌, filter, take}
use Rattle.lrs_events.specs.LaneLists.Lane.{is_met}
use Rattle.lrs_events.proofs.lanes.lane.push_all_met.Given as goal

abbrev pub invariant-loop-row : goal.invariant-loop-row
invariant-loop-row l = l.out.items ≡ l.fn.out.items ++ filter (is_met l.low l.high) (take l.row-index l.rows)
