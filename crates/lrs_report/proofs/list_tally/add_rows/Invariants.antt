use Rattle.std.proofs.Common.{◌≡◌, true, drop}
use Rattle.lrs_report.specs.ListTally.{are_by_class, with_rows}
use Rattle.lrs_report.proofs.list_tally.add_rows.Given as goal

abbrev pub invariant-loop-row : goal.invariant-loop-row
invariant-loop-row l = record {
  order : are_by_class l.totals.items ≡ true;
  sums : with_rows (drop l.row-index l.rows) l.totals.items ≡ with_rows l.rows l.fn.totals.items;
}
