use Rattle.std.proofs.Common.{arith}
use Rattle.std.proofs.lemmas.Grind.{common_steps}
use Rattle.lrs_report.proofs.Passing.{least_within}
use Rattle.lrs_report.proofs.sweep.least_end.Goals as goal

pub loop-column-init : goal.loop-column-init
loop-column-init g c = let w = least_within c.args.len c.args.columns.now in record { least = omega (arith, w); within = omega arith }

pub loop-column-preserved : goal.loop-column-preserved
loop-column-preserved g c = grind (arith, common_steps)

pub returns : goal.returns
returns g c = grind (arith, common_steps)
