use Rattle.lrs_promises.proofs.DeskLaws.Witness.{some_differ_by_classes}
use Rattle.lrs_promises.proofs.row_laws.some_differ_by_classes.Goals as goal

pub returns : goal.returns
returns c = some_differ_by_classes
