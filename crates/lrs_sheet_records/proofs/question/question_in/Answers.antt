use Rattle.std.proofs.Common.{rules}
use Rattle.csv.specs.Records.{fields_of}
use Rattle.lrs_sheet_records.proofs.Asked.{refuses-asked}
use Rattle.lrs_sheet_records.proofs.question.question_in.Goals as goal

pub returns-in-Err-clause-refuses : goal.returns-in-Err-clause-refuses
returns-in-Err-clause-refuses c = refuses-asked (fields_of c.args.row.now) c.in-Err.fault (search rules) (search rules)
