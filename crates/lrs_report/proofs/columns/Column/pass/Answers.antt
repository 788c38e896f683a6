use Rattle.std.proofs.Common.{arith}
use Rattle.std.proofs.lemmas.Grind.{common_steps}
use Rattle.lrs_report.proofs.columns.Column.pass.Goals as goal

pub returns-in-Some : goal.returns-in-Some
returns-in-Some g c = grind (arith, common_steps)

pub returns-else-stretch-to : goal.returns-else-stretch-to
returns-else-stretch-to g c = grind (arith, common_steps)

pub returns : goal.returns
returns g c = grind (arith, common_steps)
