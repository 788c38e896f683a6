use Rattle.std.proofs.Common.{arith}
use Rattle.std.proofs.lemmas.Grind.{common_steps}
use Rattle.lrs_ordered.proofs.chunked.make_spares.Goals as goal

pub loop-spare-preserved : goal.loop-spare-preserved
loop-spare-preserved g c = grind (arith, common_steps)

pub returns-clause-empty : goal.returns-clause-empty
returns-clause-empty g c = grind (arith, common_steps)

pub returns-clause-len : goal.returns-clause-len
returns-clause-len g c = grind (arith, common_steps)

pub returns-clause-wanted : goal.returns-clause-wanted
returns-clause-wanted g c = grind (arith, common_steps)
