use Rattle.lrs_promises.proofs.DeskLaws.Overlapping.{some_overlaps_are_shorter}
use Rattle.lrs_promises.proofs.row_laws.some_overlaps_are_shorter.Goals as goal

pub returns : goal.returns
returns c = some_overlaps_are_shorter
