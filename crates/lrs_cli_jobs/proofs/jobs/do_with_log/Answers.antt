use Rattle.std.proofs.Common.{inr}
use Rattle.lrs_cli_jobs.proofs.jobs.do_with_log.Goals as goal

pub returns-in-Ok : goal.returns-in-Ok
returns-in-Ok g c = inr (
  record {
    before = c.in-Ok.desk;
    after = c.do_and_close.ensures.0;
    begins = (c.in-Ok.ensures.kept, c.in-Ok.ensures.opened);
    worked = c.do_and_close.ensures.1;
  },
  c.do_and_close.ensures.2,
)
