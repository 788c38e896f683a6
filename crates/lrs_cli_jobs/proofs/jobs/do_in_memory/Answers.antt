use Rattle.std.proofs.Common.{inr}
use Rattle.lrs_cli_jobs.proofs.jobs.do_in_memory.Goals as goal

pub returns-in-Ok : goal.returns-in-Ok
returns-in-Ok g c = inr (record { before = c.in-Ok.desk; after = c.do_expected-given.new.desk; begins = c.in-Ok.ensures.fresh.0; worked = c.do_expected-given.ensures })
