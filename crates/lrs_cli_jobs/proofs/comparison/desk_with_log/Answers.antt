use Rattle.std.proofs.Common.{refl}
use Rattle.lrs_cli_jobs.proofs.comparison.desk_with_log.Goals as goal

pub returns-in-Ok-clause-source : goal.returns-in-Ok-clause-source
returns-in-Ok-clause-source g c = (c.in-Ok.desk, (c.in-Ok.ensures.kept, c.in-Ok.ensures.opened), refl)
