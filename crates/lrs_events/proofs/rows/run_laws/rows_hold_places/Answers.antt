use Rattle.lrs_events.proofs.Row.Picked.{rows_hold}
use Rattle.lrs_events.proofs.rows.run_laws.rows_hold_places.Goals as goal

pub returns : goal.returns
returns c = rows_hold
