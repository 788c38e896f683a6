use Rattle.std.proofs.Common.{arith}
use Rattle.std.proofs.lemmas.Grind.{common_steps}
use Rattle.lrs_position.proofs.texts.read_target.Goals as goal

pub returns-in-abs-clause-read : goal.returns-in-abs-clause-read
returns-in-abs-clause-read c = grind (arith, common_steps)

pub returns-in-abs-clause-found : goal.returns-in-abs-clause-found
returns-in-abs-clause-found c = grind (arith, common_steps)

pub returns-in-int-clause-read : goal.returns-in-int-clause-read
returns-in-int-clause-read c = grind (arith, common_steps)

pub returns-in-int-clause-found : goal.returns-in-int-clause-found
returns-in-int-clause-found c = grind (arith, common_steps)

pub returns-in-Some-clause-read : goal.returns-in-Some-clause-read
returns-in-Some-clause-read c = grind (arith, common_steps)

pub returns-in-Some-clause-found : goal.returns-in-Some-clause-found
returns-in-Some-clause-found c = grind (arith, common_steps)

pub returns-in-None-clause-read : goal.returns-in-None-clause-read
returns-in-None-clause-read c = grind (arith, common_steps)

pub returns-in-None-clause-found : goal.returns-in-None-clause-found
returns-in-None-clause-found c = grind (arith, common_steps)

pub returns-in_default-clause-read : goal.returns-in_default-clause-read
returns-in_default-clause-read c = grind (arith, common_steps)

pub returns-in_default-clause-found : goal.returns-in_default-clause-found
returns-in_default-clause-found c = grind (arith, common_steps)
