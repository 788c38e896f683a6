use Rattle.lrs_sheet_log.proofs.Reading.{log_reads_as_records}
use Rattle.lrs_sheet_log.proofs.laws.a_log_reads_as_its_records.Goals as goal

pub returns : goal.returns
returns c = log_reads_as_records
