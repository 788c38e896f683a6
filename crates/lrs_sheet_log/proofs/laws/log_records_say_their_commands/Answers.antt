use Rattle.lrs_sheet_log.proofs.Padding.{log_records_say}
use Rattle.lrs_sheet_log.proofs.laws.log_records_say_their_commands.Goals as goal

pub returns : goal.returns
returns c = log_records_say
