use Rattle.std.proofs.Common.{arith}
use Rattle.std.proofs.lemmas.Grind.{common_steps}
use Rattle.lrs_report.proofs.sweep.Segments.pass.Goals as goal

pub returns-then-passed-len : goal.returns-then-passed-len
returns-then-passed-len g c = grind (arith, common_steps)

pub returns-else-passed-len : goal.returns-else-passed-len
returns-else-passed-len g c = grind (arith, common_steps)

pub returns-in_default : goal.returns-in_default
returns-in_default g c = grind (arith, common_steps)
