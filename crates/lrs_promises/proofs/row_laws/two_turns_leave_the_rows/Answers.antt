use Rattle.lrs_promises.proofs.DeskLaws.RowsBack.{turns_leave_the_rows}
use Rattle.lrs_promises.proofs.row_laws.two_turns_leave_the_rows.Goals as goal

pub returns : goal.returns
returns c = turns_leave_the_rows
