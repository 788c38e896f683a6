use Rattle.std.proofs.Common.{◌≡◌, ◌++◌, map, take, drop}
use Rattle.lrs_report.specs.Columns.{first_value}
use Rattle.lrs_report.proofs.sweep.set_first_values.Given as goal

abbrev pub invariant-loop-i : goal.invariant-loop-i
invariant-loop-i g l = l.values.items ≡ map first_value (take l.i l.columns) ++ drop l.i l.fn.values.items
