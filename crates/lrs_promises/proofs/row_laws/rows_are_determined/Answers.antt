use Rattle.lrs_promises.proofs.DeskLaws.Alike.{rows_are_determined}
use Rattle.lrs_promises.proofs.row_laws.rows_are_determined.Goals as goal

pub returns : goal.returns
returns c = rows_are_determined
