use Rattle.std.proofs.Common.{refl}
use Rattle.csv.specs.Records.{field_at}
use Rattle.lrs_sheet_records.proofs.Judging.{malformed-from, says-from}
use Rattle.lrs_examples.proofs.records.records_of_a_survey.Goals as goal

pub returns : goal.returns
unfolding field_at
returns c = record {
  header = refl;
  stretch = says-from _ _ _ _ refl refl refl refl refl refl;
  point = says-from _ _ _ _ refl refl refl refl refl refl;
  no_key = malformed-from _ _ _ refl;
  no_asset = malformed-from _ _ _ refl;
  small_class = malformed-from _ _ _ refl;
  unknown_side = malformed-from _ _ _ refl;
  unknown_method = malformed-from _ _ _ refl;
  start_by_another_method = malformed-from _ _ _ refl;
  end_by_another_method = malformed-from _ _ _ refl;
  no_value = malformed-from _ _ _ refl;
  no_offset = malformed-from _ _ _ refl;
}
