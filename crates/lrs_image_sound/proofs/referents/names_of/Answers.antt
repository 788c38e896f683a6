use Rattle.std.proofs.Common.{arith}
use Rattle.std.proofs.lemmas.Grind.{common_steps}
use Rattle.std.proofs.lemmas.Result.{err_from_is_err_and}
use Rattle.lrs_image_sound.proofs.referents.names_of.Goals as goal

pub returns-in_err-push_names : goal.returns-in_err-push_names
returns-in_err-push_names c = rw (err_from_is_err_and c.from_residual.result c.from_residual.ensures.1).1 tt

pub loop-route_row-preserved : goal.loop-route_row-preserved
loop-route_row-preserved c = grind (arith, common_steps)
