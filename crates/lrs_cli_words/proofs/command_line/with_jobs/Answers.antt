use Rattle.clap.specs.Words.{app_of}
use Rattle.lrs_cli_words.specs.Words.{with_job}
use Rattle.lrs_cli_words.proofs.Folded.{one_more}
use Rattle.lrs_cli_words.proofs.command_line.with_jobs.Goals as goal

pub loop-job-preserved : goal.loop-job-preserved
loop-job-preserved c = one_more with_job (app_of c.args.line) _ _ c.args.jobs.now c.loop-job.job-index _ c.loop-job-test.true c.loop-job.invariant c.in_ok-line.ensures
