use Rattle.lrs_difference.proofs.Grouped.{by_themselves}
use Rattle.lrs_difference.proofs.laws.kinds_are_told_by_themselves.Goals as goal

pub returns : goal.returns
returns c = by_themselves
