use Rattle.lrs_promises.proofs.DeskLaws.Left.{commands_leave_the_same_rows}
use Rattle.lrs_promises.proofs.row_laws.commands_leave_the_same_rows.Goals as goal

pub returns : goal.returns
returns c = commands_leave_the_same_rows
