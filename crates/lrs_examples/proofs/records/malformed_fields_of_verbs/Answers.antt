use Rattle.std.proofs.Common.{refl}
use Rattle.csv.specs.Records.{field_at}
use Rattle.lrs_sheet_records.proofs.Judging.{malformed-from}
use Rattle.lrs_examples.proofs.records.malformed_fields_of_verbs.Goals as goal

pub returns : goal.returns
unfolding field_at
returns c = record {
  asset_too_great = malformed-from _ _ _ refl;
  unknown_side = malformed-from _ _ _ refl;
  no_start = malformed-from _ _ _ refl;
  end_by_another_method = malformed-from _ _ _ refl;
  method_before_end = malformed-from _ _ _ refl;
  dash_as_value = malformed-from _ _ _ refl;
  no_value = malformed-from _ _ _ refl;
  no_offset = malformed-from _ _ _ refl;
  offset_too_great = malformed-from _ _ _ refl;
  retired_from_nowhere = malformed-from _ _ _ refl;
  end_retired_by_measure = malformed-from _ _ _ refl;
  side_retired = malformed-from _ _ _ refl;
  split_by_proportion = malformed-from _ _ _ refl;
  split_too_far = malformed-from _ _ _ refl;
  no_new_name = malformed-from _ _ _ refl;
  no_second_route = malformed-from _ _ _ refl;
  realigned_from_nowhere = malformed-from _ _ _ refl;
  bad_pieces = malformed-from _ _ _ refl;
  space_as_pieces = malformed-from _ _ _ refl;
  no_marks = malformed-from _ _ _ refl;
}
