use Rattle.std.proofs.Common.{arith}
use Rattle.std.proofs.lemmas.Grind.{common_steps}
use Rattle.lrs_report.proofs.sweep.Segments.into_vec.Goals as goal

pub loop-segment-preserved : goal.loop-segment-preserved
loop-segment-preserved g c = grind (arith, common_steps)

pub returns : goal.returns
returns g c = grind (arith, common_steps)
