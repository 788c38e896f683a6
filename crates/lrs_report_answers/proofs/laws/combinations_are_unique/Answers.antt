use Rattle.lrs_report_answers.proofs.Combined.{combinations_unique}
use Rattle.lrs_report_answers.proofs.laws.combinations_are_unique.Goals as goal

pub returns : goal.returns
returns c = combinations_unique
