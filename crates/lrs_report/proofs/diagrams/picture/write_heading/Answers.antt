use Rattle.std.proofs.Common.{arith}
use Rattle.std.proofs.lemmas.Grind.{common_steps}
use Rattle.lrs_report.proofs.diagrams.picture.write_heading.Goals as goal

pub returns : goal.returns
returns g c = grind (arith, common_steps)
