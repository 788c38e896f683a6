use Rattle.lrs_sheet_records.proofs.Complete.{records_are_judged}
use Rattle.lrs_sheet_records.proofs.laws.each_record_is_judged.Goals as goal

pub returns : goal.returns
returns c = records_are_judged
