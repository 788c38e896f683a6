use Rattle.lrs_sheet.proofs.GoingOn.{resumed_is_unstopped}
use Rattle.lrs_sheet.proofs.laws.a_resumed_sheet_is_as_without_a_stop.Goals as goal

pub returns : goal.returns
returns c = resumed_is_unstopped
