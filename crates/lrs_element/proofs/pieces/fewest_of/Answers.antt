use Rattle.std.proofs.Common.{arith}
use Rattle.std.proofs.lemmas.Grind.{common_steps}
use Rattle.lrs_element.proofs.pieces.fewest_of.Goals as goal

pub loop-piece-preserved : goal.loop-piece-preserved
loop-piece-preserved c = grind (arith, common_steps)

pub returns-clause-course : goal.returns-clause-course
returns-clause-course c = grind (arith, common_steps)

pub returns-clause-fewest : goal.returns-clause-fewest
returns-clause-fewest c = grind (arith, common_steps)
