use Rattle.lrs_machine.proofs.Keeping.{route_edits_keep}
use Rattle.lrs_machine.proofs.laws.route_edits_keep.Goals as goal

pub returns : goal.returns
returns c = route_edits_keep
