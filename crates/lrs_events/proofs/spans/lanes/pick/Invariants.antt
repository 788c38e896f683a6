use Rattle.std.proofs.Common.{◌≡◌, ◌≤◌, take, vec_len, vec_capacity}
use Rattle.std.specs.List.{filter}
use Rattle.lrs_events.specs.RouteSpans.LanesOfRows.{is_on}
use Rattle.lrs_events.proofs.spans.lanes.pick.Given as goal

abbrev pub invariant-loop-row : goal.invariant-loop-row
invariant-loop-row l = record {
  picked : l.picked.items ≡ filter (is_on l.class l.side) (take l.row-index l.rows);
  len : vec_len l.picked ≤ l.row-index;
  capacity : vec_capacity l.fn.picked ≤ vec_capacity l.picked;
}
