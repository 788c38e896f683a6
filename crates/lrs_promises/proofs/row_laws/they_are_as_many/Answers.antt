use Rattle.lrs_promises.proofs.DeskLaws.Apart.{as_many}
use Rattle.lrs_promises.proofs.row_laws.they_are_as_many.Goals as goal

pub returns : goal.returns
returns c = as_many
