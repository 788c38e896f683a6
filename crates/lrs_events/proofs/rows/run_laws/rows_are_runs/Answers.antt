use Rattle.lrs_events.proofs.Row.RunLaws.{rows_are_runs}
use Rattle.lrs_events.proofs.rows.run_laws.rows_are_runs.Goals as goal

pub returns : goal.returns
returns c = rows_are_runs
