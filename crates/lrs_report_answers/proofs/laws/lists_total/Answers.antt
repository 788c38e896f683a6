use Rattle.lrs_report_answers.proofs.Tally.Listed.{lists_total}
use Rattle.lrs_report_answers.proofs.laws.lists_total.Goals as goal

pub returns : goal.returns
returns c = lists_total
