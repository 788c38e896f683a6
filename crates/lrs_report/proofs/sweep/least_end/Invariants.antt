use Rattle.std.proofs.Common.{◌≡◌, ◌≤◌, drop, min}
use Rattle.lrs_report.specs.Columns.{least_end}
use Rattle.lrs_report.proofs.sweep.least_end.Given as goal

abbrev pub invariant-loop-column : goal.invariant-loop-column
invariant-loop-column g l = record {
  least : min l.least (least_end l.len (drop l.column-index l.columns)) ≡ least_end l.len l.columns;
  within : l.least ≤ l.len;
}
