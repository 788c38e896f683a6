use Rattle.lrs_sheet_log.proofs.SetReferents.{set_exactly}
use Rattle.lrs_sheet_log.proofs.laws.referents_are_set_exactly.Goals as goal

pub returns : goal.returns
returns c = set_exactly
