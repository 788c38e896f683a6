use Rattle.lrs_sheet_records.proofs.Printed.{printed_records_say}
use Rattle.lrs_sheet_records.proofs.laws.a_printed_record_says_its_command.Goals as goal

pub returns : goal.returns
returns c = printed_records_say
