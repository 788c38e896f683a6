use Rattle.std.proofs.Common.{arith}
use Rattle.std.proofs.lemmas.Grind.{common_steps}
use Rattle.lrs_verbs.proofs.routes.split.names_behind.Goals as goal

pub loop-referent-preserved : goal.loop-referent-preserved
loop-referent-preserved c = grind (arith, common_steps)
