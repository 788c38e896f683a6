use Rattle.std.proofs.Common.{arith}
use Rattle.std.proofs.lemmas.Grind.{common_steps}
use Rattle.lrs_ordered.proofs.insertion.put_last.Goals as goal

pub returns-in-Some-clause-rows : goal.returns-in-Some-clause-rows
returns-in-Some-clause-rows g c = grind (arith, common_steps)

pub returns-in-Some-clause-filled : goal.returns-in-Some-clause-filled
returns-in-Some-clause-filled g c = grind (arith, common_steps)

pub returns-in-Some-clause-empty : goal.returns-in-Some-clause-empty
returns-in-Some-clause-empty g c = grind (arith, common_steps)

pub returns-in-Some-clause-spares_len : goal.returns-in-Some-clause-spares_len
returns-in-Some-clause-spares_len g c = grind (arith, common_steps)

pub returns-in-Some-clause-len : goal.returns-in-Some-clause-len
returns-in-Some-clause-len g c = grind (arith, common_steps)

pub returns-in-Some-clause-capacity : goal.returns-in-Some-clause-capacity
returns-in-Some-clause-capacity g c = grind (arith, common_steps)

pub returns-in_default-clause-rows : goal.returns-in_default-clause-rows
returns-in_default-clause-rows g c = grind (arith, common_steps)

pub returns-in_default-clause-filled : goal.returns-in_default-clause-filled
returns-in_default-clause-filled g c = grind (arith, common_steps)

pub returns-in_default-clause-empty : goal.returns-in_default-clause-empty
returns-in_default-clause-empty g c = grind (arith, common_steps)

pub returns-in_default-clause-spares_len : goal.returns-in_default-clause-spares_len
returns-in_default-clause-spares_len g c = grind (arith, common_steps)

pub returns-in_default-clause-len : goal.returns-in_default-clause-len
returns-in_default-clause-len g c = grind (arith, common_steps)

pub returns-in_default-clause-capacity : goal.returns-in_default-clause-capacity
returns-in_default-clause-capacity g c = grind (arith, common_steps)
