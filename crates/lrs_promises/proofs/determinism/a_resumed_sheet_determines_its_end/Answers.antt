use Rattle.lrs_promises.proofs.Ends.{resumed_end_alike}
use Rattle.lrs_promises.proofs.determinism.a_resumed_sheet_determines_its_end.Goals as goal

pub returns : goal.returns
returns c = resumed_end_alike
