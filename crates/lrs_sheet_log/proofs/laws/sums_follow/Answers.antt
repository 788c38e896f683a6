use Rattle.lrs_sheet_log.proofs.Summed.{follows}
use Rattle.lrs_sheet_log.proofs.laws.sums_follow.Goals as goal

pub returns : goal.returns
returns c edits e = follows edits e
