use Rattle.std.proofs.Common.{◌≡◌, true, drop}
use Rattle.lrs_report.specs.ListTally.{are_by_class, with_entered}
use Rattle.lrs_report.proofs.list_tally.add_entered.Given as goal

abbrev pub invariant-loop-part : goal.invariant-loop-part
invariant-loop-part l = record {
  order : are_by_class l.totals.items ≡ true;
  sums : with_entered l.assets (drop l.part-index l.entered) l.totals.items ≡ with_entered l.assets l.entered l.fn.totals.items;
}
