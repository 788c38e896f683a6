use Rattle.lrs_promises.proofs.DeskLaws.Undone.{split_is_undone}
use Rattle.lrs_promises.proofs.row_laws.a_split_is_undone.Goals as goal

pub returns : goal.returns
returns c = split_is_undone
