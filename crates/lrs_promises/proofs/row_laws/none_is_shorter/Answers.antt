use Rattle.lrs_promises.proofs.DeskLaws.Fewest.{none_is_shorter}
use Rattle.lrs_promises.proofs.row_laws.none_is_shorter.Goals as goal

pub returns : goal.returns
returns c = none_is_shorter
