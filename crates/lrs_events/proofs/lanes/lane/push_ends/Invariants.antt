use Rattle.std.proofs.Common.{◌≡◌, ◌≤◌, ◌+◌, ◌++◌, drop, length, vec_len, vec_capacity}
use Rattle.lrs_events.specs.LaneLists.Lane.{greatest_from, last_from}
use Rattle.lrs_events.proofs.lanes.lane.push_ends.Given as goal

abbrev pub invariant-loop-row : goal.invariant-loop-row
invariant-loop-row l = record {
  ends : l.greatest.items ++ greatest_from l.most (drop l.row-index l.rows) ≡ l.fn.greatest.items ++ greatest_from (last_from 0 l.fn.greatest.items) l.rows;
  room : vec_len l.greatest + length l.rows ≤ vec_capacity l.greatest + l.row-index;
  capacity : vec_capacity l.fn.greatest ≤ vec_capacity l.greatest;
}
