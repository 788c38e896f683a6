use Rattle.std.proofs.Common.{◌≡◌, ◌+◌, length}
use Rattle.lrs_report.proofs.sweep.Segments.count.Given as goal

abbrev pub invariant-loop-count : goal.invariant-loop-count
invariant-loop-count g l = l.count + length l.left ≡ length l.self

abbrev pub decreases-loop-count : goal.decreases-loop-count
decreases-loop-count g l = length l.left
