use Rattle.std.proofs.Common.{arith}
use Rattle.std.proofs.lemmas.Grind.{common_steps}
use Rattle.lrs_report.proofs.columns.ahead_from.Goals as goal

pub returns-then-from-next : goal.returns-then-from-next
returns-then-from-next g c = grind (arith, common_steps)

pub returns-in-Some-split_first : goal.returns-in-Some-split_first
returns-in-Some-split_first g c = grind (arith, common_steps)

pub returns-in-None-split_first : goal.returns-in-None-split_first
returns-in-None-split_first g c = grind (arith, common_steps)
