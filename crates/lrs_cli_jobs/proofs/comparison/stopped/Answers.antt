use Rattle.std.proofs.Common.{inl, refl}
use Rattle.lrs_cli_jobs.proofs.comparison.stopped.Goals as goal

pub returns : goal.returns
returns c = inl (c.args.fault, refl)
