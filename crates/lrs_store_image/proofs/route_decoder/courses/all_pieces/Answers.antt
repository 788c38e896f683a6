use Rattle.std.proofs.Common.{arith}
use Rattle.std.proofs.lemmas.Grind.{common_steps}
use Rattle.lrs_store_image.proofs.route_decoder.courses.all_pieces.Goals as goal

pub loop-route-preserved : goal.loop-route-preserved
loop-route-preserved c = grind (arith, common_steps)

pub returns-clause-course : goal.returns-clause-course
returns-clause-course c = grind (arith, common_steps)

pub returns-clause-filled : goal.returns-clause-filled
returns-clause-filled c = grind (arith, common_steps)
