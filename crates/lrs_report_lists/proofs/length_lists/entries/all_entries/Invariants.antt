use Rattle.std.proofs.Common.{◌≡◌, ◌+◌, ◌<◌, ◌^◌, ◌++◌, true, sum_by}
use Rattle.std.specs.List.{list_all}
use Rattle.lrs_report_lists.specs.Length.Parts.{entries_of, has_rows_on, route_length}
use Rattle.lrs_report_lists.proofs.length_lists.entries.all_entries.Given as goal

abbrev pub invariant-loop-route_row : goal.invariant-loop-route_row
invariant-loop-route_row l = record {
  done : l.entries.items ++ entries_of l.assets.rows l.start l.route_row-iterator ≡ entries_of l.assets.rows 0 l.routes.rows;
  rows : list_all has_rows_on l.route_row-iterator ≡ true;
  fits : l.start + sum_by route_length l.route_row-iterator < 2 ^ 64;
}
