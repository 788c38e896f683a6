use Rattle.std.proofs.Common.{arith}
use Rattle.std.proofs.lemmas.Grind.{common_steps}
use Rattle.lrs_image_sound.proofs.courses.push_course.Goals as goal

pub returns : goal.returns
returns c = grind (arith, common_steps)
