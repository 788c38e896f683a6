use Rattle.std.proofs.lemmas.Nat.Gcd.{IsGcd-from_mod, IsGcd-from_zero}
use Rattle.lrs_measure.proofs.fraction.gcd.Goals as goal

pub loop-low-preserved : goal.loop-low-preserved
loop-low-preserved c = λ g h. c.loop-low.invariant g (IsGcd-from_mod _ _ g h)

pub returns : goal.returns
returns c = c.loop-low.invariant c.loop-low.high (IsGcd-from_zero _ _ c.loop-low-test.false)
