use Rattle.std.proofs.Common.{◌≤◌}
use Rattle.lrs_report_lists.proofs.Length.Numbered.{Counted}
use Rattle.lrs_report_lists.proofs.length_lists.held_assets.count_numbers.Given as goal

abbrev pub invariant-loop-i : goal.invariant-loop-i
invariant-loop-i l = record {
  counted : Counted l.numbers l.i l.count;
  few : l.count ≤ l.i;
}
