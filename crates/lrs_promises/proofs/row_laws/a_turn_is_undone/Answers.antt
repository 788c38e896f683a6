use Rattle.lrs_promises.proofs.DeskLaws.Undone.{turn_is_undone}
use Rattle.lrs_promises.proofs.row_laws.a_turn_is_undone.Goals as goal

pub returns : goal.returns
returns c = turn_is_undone
