use Rattle.lrs_report_lists.proofs.LinkLines.{rows_hold_same}
use Rattle.lrs_report_lists.proofs.laws.rows_hold_the_same_on_links.Goals as goal

pub returns : goal.returns
returns c = rows_hold_same
