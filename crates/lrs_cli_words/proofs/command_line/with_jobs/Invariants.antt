use Rattle.std.proofs.Common.{◌≡◌, take, fold}
use Rattle.clap.specs.Words.{app_of}
use Rattle.lrs_cli_words.specs.Words.{with_job}
use Rattle.lrs_cli_words.proofs.command_line.with_jobs.Given as goal

abbrev pub invariant-loop-job : goal.invariant-loop-job
invariant-loop-job l = app_of l.line ≡ fold with_job (app_of l.initial.line) (take l.job-index l.jobs)
