use Rattle.std.proofs.Common.{arith}
use Rattle.std.proofs.lemmas.Grind.{common_steps}
use Rattle.lrs_store_image.proofs.route_decoder.marks.names_of_courses.Goals as goal

pub loop-course-preserved : goal.loop-course-preserved
loop-course-preserved c = grind (arith, common_steps)

pub returns : goal.returns
returns c = grind (arith, common_steps)
