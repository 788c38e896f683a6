use Rattle.std.proofs.Common.{rules}
use Rattle.csv.specs.Records.{fields_of}
use Rattle.lrs_sheet_records.proofs.Surveyed.{refuses-new_asset, says-new_asset}
use Rattle.lrs_sheet_records.proofs.record.survey_of.Goals as goal

pub returns-in-Ok-clause-says : goal.returns-in-Ok-clause-says
returns-in-Ok-clause-says c = says-new_asset (fields_of c.args.row.now) _ _ (search rules) (search rules) (search rules)

pub returns-in-Err-clause-refuses : goal.returns-in-Err-clause-refuses
returns-in-Err-clause-refuses c = refuses-new_asset (fields_of c.args.row.now) c.in-Err.fault (search rules) (search rules)
