use Rattle.std.proofs.Common.{arith}
use Rattle.std.proofs.lemmas.Grind.{common_steps}
use Rattle.lrs_image_sound.proofs.courses.all_pieces.Goals as goal

pub loop-route_row-preserved : goal.loop-route_row-preserved
loop-route_row-preserved c = grind (arith, common_steps)

pub returns : goal.returns
returns c = grind (arith, common_steps)
