use Rattle.std.proofs.Common.{arith}
use Rattle.std.proofs.lemmas.Grind.{common_steps}
use Rattle.lrs_events.proofs.ledgers.run.joined_place.Goals as goal

pub returns-in_err-last-clause-found : goal.returns-in_err-last-clause-found
returns-in_err-last-clause-found c = grind (arith, common_steps)

pub returns-in_err-last-clause-none : goal.returns-in_err-last-clause-none
returns-in_err-last-clause-none c = grind (arith, common_steps)

pub returns-then-goes_on-clause-found : goal.returns-then-goes_on-clause-found
returns-then-goes_on-clause-found c = grind (arith, common_steps)

pub returns-then-goes_on-clause-none : goal.returns-then-goes_on-clause-none
returns-then-goes_on-clause-none c = grind (arith, common_steps)

pub returns-else-goes_on-clause-found : goal.returns-else-goes_on-clause-found
returns-else-goes_on-clause-found c = grind (arith, common_steps)

pub returns-else-goes_on-clause-none : goal.returns-else-goes_on-clause-none
returns-else-goes_on-clause-none c = grind (arith, common_steps)
