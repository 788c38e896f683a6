use Rattle.std.proofs.Common.{arith}
use Rattle.std.proofs.lemmas.Grind.{common_steps}
use Rattle.lrs_ordered.proofs.removal.remove_among.Goals as goal

pub returns-then-is_empty-clause-row : goal.returns-then-is_empty-clause-row
returns-then-is_empty-clause-row g c = grind (arith, common_steps)

pub returns-then-is_empty-clause-rows : goal.returns-then-is_empty-clause-rows
returns-then-is_empty-clause-rows g c = grind (arith, common_steps)

pub returns-then-is_empty-clause-filled : goal.returns-then-is_empty-clause-filled
returns-then-is_empty-clause-filled g c = grind (arith, common_steps)

pub returns-then-is_empty-clause-len : goal.returns-then-is_empty-clause-len
returns-then-is_empty-clause-len g c = grind (arith, common_steps)

pub returns-then-is_empty-clause-capacity : goal.returns-then-is_empty-clause-capacity
returns-then-is_empty-clause-capacity g c = grind (arith, common_steps)

pub returns-clause-row : goal.returns-clause-row
returns-clause-row g c = grind (arith, common_steps)

pub returns-clause-rows : goal.returns-clause-rows
returns-clause-rows g c = grind (arith, common_steps)

pub returns-clause-filled : goal.returns-clause-filled
returns-clause-filled g c = grind (arith, common_steps)

pub returns-clause-len : goal.returns-clause-len
returns-clause-len g c = grind (arith, common_steps)

pub returns-clause-capacity : goal.returns-clause-capacity
returns-clause-capacity g c = grind (arith, common_steps)
