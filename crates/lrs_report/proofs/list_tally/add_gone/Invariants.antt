use Rattle.std.proofs.Common.{◌≡◌, true, drop}
use Rattle.lrs_report.specs.ListTally.{are_by_class, with_gone}
use Rattle.lrs_report.proofs.list_tally.add_gone.Given as goal

abbrev pub invariant-loop-row : goal.invariant-loop-row
invariant-loop-row l = record {
  order : are_by_class l.totals.items ≡ true;
  sums : with_gone l.assets (drop l.row-index l.gone) l.totals.items ≡ with_gone l.assets l.gone l.fn.totals.items;
}
