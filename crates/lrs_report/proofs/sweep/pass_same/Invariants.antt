use Rattle.std.proofs.Common.{◌-◌}
use Rattle.lrs_report.specs.Sweep.{IsPassed}
use Rattle.lrs_report.proofs.sweep.pass_same.Given as goal

abbrev pub invariant-loop-to : goal.invariant-loop-to
invariant-loop-to g l = IsPassed l.from l.len l.values l.fn.columns.items l.to l.columns.items

abbrev pub decreases-loop-to : goal.decreases-loop-to
decreases-loop-to g l = l.len - l.to
