use Rattle.std.proofs.Common.{arith}
use Rattle.std.proofs.lemmas.Grind.{common_steps}
use Rattle.lrs_report_answers.proofs.route_diagram.all_classes.Goals as goal

pub loop-class-preserved : goal.loop-class-preserved
loop-class-preserved c = grind (arith, common_steps)

pub returns : goal.returns
returns c = grind (arith, common_steps)
