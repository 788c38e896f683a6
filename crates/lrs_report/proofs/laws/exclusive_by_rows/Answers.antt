use Rattle.lrs_report.proofs.States.{exclusive_too}
use Rattle.lrs_report.proofs.laws.exclusive_by_rows.Goals as goal

pub returns : goal.returns
returns c = exclusive_too
