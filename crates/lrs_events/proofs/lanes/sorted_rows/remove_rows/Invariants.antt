use Rattle.std.proofs.Common.{◌≡◌, ◌≤◌, true, drop, vec_len, vec_capacity}
use Rattle.lrs_measure.specs.Lists.{each_two}
use Rattle.lrs_events.specs.Changes.{without_rows}
use Rattle.lrs_events.specs.LaneLists.Order.{row_before}
use Rattle.lrs_events.proofs.lanes.sorted_rows.remove_rows.Given as goal

abbrev pub invariant-loop-row : goal.invariant-loop-row
invariant-loop-row l = record {
  order : each_two (row_before l.order) l.rows.items ≡ true;
  rest : without_rows (drop l.row-index l.gone) l.rows.items ≡ without_rows l.gone l.fn.rows.items;
  len : vec_len l.rows ≤ vec_len l.fn.rows;
  capacity : vec_capacity l.rows ≡ vec_capacity l.fn.rows;
}
