use Rattle.std.proofs.Common.{◌≡◌, ◌≤◌, ◌+◌, drop, length, vec_len, vec_capacity}
use Rattle.lrs_measure.specs.OrderedLists.{insert_all}
use Rattle.lrs_events.specs.LaneLists.Order.{row_before}
use Rattle.lrs_events.proofs.lanes.sorted_rows.insert_rows.Given as goal

abbrev pub invariant-loop-row : goal.invariant-loop-row
invariant-loop-row l = record {
  room : vec_len l.rows + length l.come ≤ vec_capacity l.rows + l.row-index;
  rest : insert_all (row_before l.order) (drop l.row-index l.come) l.rows.items ≡ insert_all (row_before l.order) l.come l.fn.rows.items;
  capacity : vec_capacity l.fn.rows ≤ vec_capacity l.rows;
}
