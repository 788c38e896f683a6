use Rattle.std.proofs.Common.{arith}
use Rattle.std.proofs.lemmas.Grind.{common_steps}
use Rattle.lrs_cli_tasks.proofs.lines.write_hit.Goals as goal

pub returns : goal.returns
returns c = grind (arith, common_steps)
