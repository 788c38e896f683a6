use Rattle.lrs_report_answers.proofs.Ledgers.{ledgers_total}
use Rattle.lrs_report_answers.proofs.laws.ledgers_total.Goals as goal

pub returns : goal.returns
returns c = ledgers_total
