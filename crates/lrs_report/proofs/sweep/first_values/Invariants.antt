use Rattle.std.proofs.Common.{◌≡◌, map, take}
use Rattle.lrs_report.specs.Columns.{first_value}
use Rattle.lrs_report.proofs.sweep.first_values.Given as goal

abbrev pub invariant-loop-column : goal.invariant-loop-column
invariant-loop-column g l = l.values.items ≡ map first_value (take l.column-index l.columns)
