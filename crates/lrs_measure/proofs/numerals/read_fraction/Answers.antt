use Rattle.std.proofs.Common.{arith}
use Rattle.std.proofs.lemmas.Grind.{common_steps}
use Rattle.lrs_measure.proofs.numerals.read_fraction.Goals as goal

pub returns-clause-fraction : goal.returns-clause-fraction
returns-clause-fraction c = grind (arith, common_steps)

pub returns-clause-value : goal.returns-clause-value
returns-clause-value c = grind (arith, common_steps)

pub returns-clause-lowest : goal.returns-clause-lowest
returns-clause-lowest c = grind (arith, common_steps)
