use Rattle.std.proofs.Common.{rules}
use Rattle.csv.specs.Records.{fields_of}
use Rattle.lrs_sheet_records.proofs.Misfits.{refuses}
use Rattle.lrs_sheet_records.proofs.record.command_of.Goals as goal

pub returns-in-Err-clause-refuses : goal.returns-in-Err-clause-refuses
returns-in-Err-clause-refuses c = refuses (fields_of c.args.row.now) c.in-Err.fault (search rules) (search rules)
