use Rattle.lrs_cli_jobs.proofs.jobs.do_and_close.Goals as goal

pub returns : goal.returns
returns g c = (c.do_expected-given.new.desk, c.do_expected-given.ensures, λ content may. rw c.into_keeper.ensures.keeper at (c.close.ensures.found content may))
