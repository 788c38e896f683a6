use Rattle.lrs_difference.proofs.Leading.{lines_lead}
use Rattle.lrs_difference.proofs.laws.lines_lead_to_the_other.Goals as goal

pub returns : goal.returns
returns c = lines_lead
