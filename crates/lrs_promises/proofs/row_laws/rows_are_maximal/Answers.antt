use Rattle.lrs_promises.proofs.DeskLaws.Maximal.{rows_are_maximal}
use Rattle.lrs_promises.proofs.row_laws.rows_are_maximal.Goals as goal

pub returns : goal.returns
returns c = rows_are_maximal
