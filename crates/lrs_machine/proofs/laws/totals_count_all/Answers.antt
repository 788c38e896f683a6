use Rattle.lrs_machine.proofs.Counting.{totals_count_all}
use Rattle.lrs_machine.proofs.laws.totals_count_all.Goals as goal

pub returns : goal.returns
returns c = totals_count_all
