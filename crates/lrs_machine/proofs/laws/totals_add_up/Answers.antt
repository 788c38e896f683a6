use Rattle.lrs_machine.proofs.Totals.{totals_add_up}
use Rattle.lrs_machine.proofs.laws.totals_add_up.Goals as goal

pub returns : goal.returns
returns c = totals_add_up
