use Rattle.lrs_promises.proofs.DeskLaws.Runs.{rows_of_each_are_one}
use Rattle.lrs_promises.proofs.row_laws.rows_of_each_are_one.Goals as goal

pub returns : goal.returns
returns c = rows_of_each_are_one
