use Rattle.lrs_sheet_log.proofs.Parts.{logs_have_parts}
use Rattle.lrs_sheet_log.proofs.laws.logs_have_parts.Goals as goal

pub returns : goal.returns
returns c = logs_have_parts
