use Rattle.std.proofs.Common.{arith}
use Rattle.std.proofs.lemmas.Grind.{common_steps}
use Rattle.lrs_ordered.proofs.search.are_up_to.Goals as goal

pub returns-then-count-chunks-clause-within : goal.returns-then-count-chunks-clause-within
returns-then-count-chunks-clause-within g c = grind (arith, common_steps)

pub returns-then-count-chunks-clause-front : goal.returns-then-count-chunks-clause-front
returns-then-count-chunks-clause-front g c = grind (arith, common_steps)

pub returns-then-count-chunks-clause-rear : goal.returns-then-count-chunks-clause-rear
returns-then-count-chunks-clause-rear g c = grind (arith, common_steps)

pub returns-then-count-chunks-2-clause-within : goal.returns-then-count-chunks-2-clause-within
returns-then-count-chunks-2-clause-within g c = grind (arith, common_steps)

pub returns-then-count-chunks-2-clause-front : goal.returns-then-count-chunks-2-clause-front
returns-then-count-chunks-2-clause-front g c = grind (arith, common_steps)

pub returns-then-count-chunks-2-clause-rear : goal.returns-then-count-chunks-2-clause-rear
returns-then-count-chunks-2-clause-rear g c = grind (arith, common_steps)

pub returns-else-count-chunks-2-clause-within : goal.returns-else-count-chunks-2-clause-within
returns-else-count-chunks-2-clause-within g c = grind (arith, common_steps)

pub returns-else-count-chunks-2-clause-front : goal.returns-else-count-chunks-2-clause-front
returns-else-count-chunks-2-clause-front g c = grind (arith, common_steps)

pub returns-else-count-chunks-2-clause-rear : goal.returns-else-count-chunks-2-clause-rear
returns-else-count-chunks-2-clause-rear g c = grind (arith, common_steps)
