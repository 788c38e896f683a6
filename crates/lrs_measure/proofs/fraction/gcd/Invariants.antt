use Rattle.std.proofs.Common.{ℕ}
use Rattle.std.specs.Int.{IsGcd}
use Rattle.lrs_measure.proofs.fraction.gcd.Given as goal

abbrev pub invariant-loop-low : goal.invariant-loop-low
invariant-loop-low l = (g : ℕ) → IsGcd l.high l.low g → IsGcd l.fn.a l.fn.b g

abbrev pub decreases-loop-low : goal.decreases-loop-low
decreases-loop-low l = l.low
