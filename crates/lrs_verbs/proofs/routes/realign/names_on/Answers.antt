use Rattle.std.proofs.Common.{arith}
use Rattle.std.proofs.lemmas.Grind.{common_steps}
use Rattle.lrs_verbs.proofs.routes.realign.names_on.Goals as goal

pub loop-referent-preserved : goal.loop-referent-preserved
loop-referent-preserved c = grind (arith, common_steps)
