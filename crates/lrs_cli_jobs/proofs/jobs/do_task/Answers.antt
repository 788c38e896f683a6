use Rattle.std.proofs.Common.{inr, rules}
use Rattle.lrs_cli_jobs.proofs.jobs.do_task.Goals as goal

pub returns-else-is_in_memory : goal.returns-else-is_in_memory
returns-else-is_in_memory g c = rw c.in-Inventory.is (inr ((λ is. search rules), c.do_at_path.ensures))
