use Rattle.std.proofs.Common.{◌≡◌, ◌++◌, length}
use Rattle.lrs_report.proofs.sweep.Segments.into_vec.Given as goal

abbrev pub invariant-loop-segment : goal.invariant-loop-segment
invariant-loop-segment g l = l.all.items ++ l.self ≡ l.fn.self

abbrev pub decreases-loop-segment : goal.decreases-loop-segment
decreases-loop-segment g l = length l.self
