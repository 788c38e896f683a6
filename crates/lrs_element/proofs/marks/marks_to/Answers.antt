use Rattle.std.proofs.Common.{arith}
use Rattle.std.proofs.lemmas.Grind.{common_steps}
use Rattle.lrs_element.proofs.marks.marks_to.Goals as goal

pub loop-mark-preserved : goal.loop-mark-preserved
loop-mark-preserved c = grind (arith, common_steps)

pub returns : goal.returns
returns c = grind (arith, common_steps)
