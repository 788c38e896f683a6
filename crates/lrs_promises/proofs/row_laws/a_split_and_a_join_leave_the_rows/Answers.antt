use Rattle.lrs_promises.proofs.DeskLaws.RowsBack.{split_and_join_leave_the_rows}
use Rattle.lrs_promises.proofs.row_laws.a_split_and_a_join_leave_the_rows.Goals as goal

pub returns : goal.returns
returns c = split_and_join_leave_the_rows
