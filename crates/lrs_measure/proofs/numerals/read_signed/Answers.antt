use Rattle.std.proofs.Common.{arith}
use Rattle.std.proofs.lemmas.Grind.{common_steps}
use Rattle.lrs_measure.proofs.numerals.read_signed.Goals as goal

pub returns-then-sign-eq45 : goal.returns-then-sign-eq45
returns-then-sign-eq45 c = grind (arith, common_steps)

pub returns-else-sign-eq45 : goal.returns-else-sign-eq45
returns-else-sign-eq45 c = grind (arith, common_steps)

pub returns-in_err-size : goal.returns-in_err-size
returns-in_err-size c = grind (arith, common_steps)
