use Rattle.std.proofs.Common.{arith}
use Rattle.std.proofs.lemmas.Grind.{common_steps}
use Rattle.lrs_store_image.proofs.route_decoder.referents.names_of_referents.Goals as goal

pub loop-route-preserved : goal.loop-route-preserved
loop-route-preserved c = grind (arith, common_steps)

pub returns : goal.returns
returns c = grind (arith, common_steps)
