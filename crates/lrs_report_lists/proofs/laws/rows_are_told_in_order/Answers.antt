use Rattle.lrs_report_lists.proofs.RoadOrder.{told_in_order}
use Rattle.lrs_report_lists.proofs.laws.rows_are_told_in_order.Goals as goal

pub returns : goal.returns
returns c = told_in_order
