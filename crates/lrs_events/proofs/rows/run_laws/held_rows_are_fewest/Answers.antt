use Rattle.lrs_events.proofs.Row.FewestHeld.{held_rows_are_fewest}
use Rattle.lrs_events.proofs.rows.run_laws.held_rows_are_fewest.Goals as goal

pub returns : goal.returns
returns c = held_rows_are_fewest
