use Rattle.std.proofs.Common.{rules, inl, inr, map, subst}
use Rattle.clap.specs.Words.{fault_of, kind_of}
use Rattle.lrs_cli_words.specs.Words.{IsMet, line_of_program}
use Rattle.lrs_cli_words.proofs.CommandLine.{among, kind_at}
use Rattle.lrs_cli_words.proofs.JobThere.{met_rows, met_words}
use Rattle.lrs_cli_words.proofs.words.job_of.Goals as goal

pub job_in-requires : goal.job_in-requires
job_in-requires c = met_words _ _ c.in-Ok.matches c.in_ok-command.ensures c.in-Ok.ensures.kinds c.in-Ok.ensures.matches

pub returns-clause-job : goal.returns-clause-job
returns-clause-job c = subst (IsMet c.in_ok-job.job) (met_rows _ _ c.in-Ok.matches c.in_ok-command.ensures c.in-Ok.ensures.matches) c.in_ok-job.ensures

pub returns-in-Err-clause-help : goal.returns-in-Err-clause-help
returns-in-Err-clause-help c text e =
    elim (kind_at _ _ c.in-Err.error c.in_ok-command.ensures c.in-Err.ensures.kinds) [
      | inl h ↦ search (rules, c.fault_of.ensures.memory h)
      | inr h ↦ among (fault_of line_of_program (map (λ w. w.now) c.args.words.now)) (c.fault_of.ensures.help text (search rules)) h
    ]

pub returns-in-Err-clause-version : goal.returns-in-Err-clause-version
returns-in-Err-clause-version c text e =
    elim (kind_at _ _ c.in-Err.error c.in_ok-command.ensures c.in-Err.ensures.kinds) [
      | inl h ↦ search (rules, c.fault_of.ensures.memory h)
      | inr h ↦ among (fault_of line_of_program (map (λ w. w.now) c.args.words.now)) (c.fault_of.ensures.version text (search rules)) h
    ]

pub returns-in-Err-clause-usage : goal.returns-in-Err-clause-usage
returns-in-Err-clause-usage c text e =
    elim (kind_at _ _ c.in-Err.error c.in_ok-command.ensures c.in-Err.ensures.kinds) [
      | inl h ↦ search (rules, c.fault_of.ensures.memory h)
      | inr h ↦ (kind_of c.in-Err.error, c.fault_of.ensures.other_than_help text (search rules), c.fault_of.ensures.other_than_version text (search rules), h)
    ]
