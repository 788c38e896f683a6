use Rattle.lrs_events.proofs.Row.Unique.{rows_are_one}
use Rattle.lrs_events.proofs.rows.laws.rows_are_one.Goals as goal

pub returns : goal.returns
returns c = rows_are_one
