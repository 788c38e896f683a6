use Rattle.lrs_events.proofs.Row.RunLaws.{held_runs_are_one}
use Rattle.lrs_events.proofs.rows.run_laws.held_runs_are_one.Goals as goal

pub returns : goal.returns
returns c = held_runs_are_one
