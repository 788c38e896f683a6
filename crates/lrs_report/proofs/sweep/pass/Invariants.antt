use Rattle.std.proofs.Common.{◌≡◌, ◌++◌, map, take, drop}
use Rattle.lrs_report.specs.Columns.{behind}
use Rattle.lrs_report.proofs.sweep.pass.Given as goal

abbrev pub invariant-loop-i : goal.invariant-loop-i
invariant-loop-i g l = l.columns.items ≡ map (behind l.to) (take l.i l.fn.columns.items) ++ drop l.i l.fn.columns.items
