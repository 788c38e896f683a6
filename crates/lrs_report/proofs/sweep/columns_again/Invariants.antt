use Rattle.std.proofs.Common.{◌≡◌, take}
use Rattle.lrs_report.proofs.sweep.columns_again.Given as goal

abbrev pub invariant-loop-column : goal.invariant-loop-column
invariant-loop-column g l = l.same.items ≡ take l.column-index l.columns
