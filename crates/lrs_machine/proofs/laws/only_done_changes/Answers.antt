use Rattle.lrs_machine.proofs.Keeping.{only_done_changes}
use Rattle.lrs_machine.proofs.laws.only_done_changes.Goals as goal

pub returns : goal.returns
returns c = only_done_changes
