use Rattle.lrs_promises.proofs.Ends.{sheets_end_alike}
use Rattle.lrs_promises.proofs.determinism.a_sheet_determines_its_end.Goals as goal

pub returns : goal.returns
returns c = sheets_end_alike
