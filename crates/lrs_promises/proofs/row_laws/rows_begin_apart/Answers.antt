use Rattle.lrs_promises.proofs.DeskLaws.Apart.{rows_begin_apart}
use Rattle.lrs_promises.proofs.row_laws.rows_begin_apart.Goals as goal

pub returns : goal.returns
returns c = rows_begin_apart
