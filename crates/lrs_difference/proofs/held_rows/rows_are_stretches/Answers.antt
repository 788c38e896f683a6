use Rattle.lrs_difference.proofs.OnlyHeld.{are_stretches}
use Rattle.lrs_difference.proofs.held_rows.rows_are_stretches.Goals as goal

pub returns : goal.returns
returns c = are_stretches
