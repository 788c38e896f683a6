use Rattle.std.proofs.Common.{◌≡◌, ◌≤◌, true, length, take}
use Rattle.lrs_events.specs.LaneLists.Order.{stand_before}
use Rattle.lrs_events.proofs.lanes.lane.front_before.Given as goal

abbrev pub invariant-loop-other : goal.invariant-loop-other
invariant-loop-other l = record {
  within : l.front ≤ length l.rows;
  front : stand_before l.front l.rows (take l.other-index l.others) ≡ true;
}
