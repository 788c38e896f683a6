use Rattle.lrs_report_lists.proofs.Stretch.{rows_have_one}
use Rattle.lrs_report_lists.proofs.laws.rows_have_a_millimetre.Goals as goal

pub returns : goal.returns
returns c = rows_have_one
