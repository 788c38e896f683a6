use Rattle.lrs_promises.proofs.DeskLaws.Runs.{rows_are_one}
use Rattle.lrs_promises.proofs.row_laws.rows_are_one.Goals as goal

pub returns : goal.returns
returns c = rows_are_one
