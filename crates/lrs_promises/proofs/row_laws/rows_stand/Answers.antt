use Rattle.lrs_promises.proofs.DeskLaws.Apart.{rows_stand}
use Rattle.lrs_promises.proofs.row_laws.rows_stand.Goals as goal

pub returns : goal.returns
returns c = rows_stand
