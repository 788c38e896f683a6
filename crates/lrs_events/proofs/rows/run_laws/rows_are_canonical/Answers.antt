use Rattle.lrs_events.proofs.Row.RunLaws.{rows_are_canonical}
use Rattle.lrs_events.proofs.rows.run_laws.rows_are_canonical.Goals as goal

pub returns : goal.returns
returns c = rows_are_canonical
