use Rattle.std.proofs.Common.{refl}
use Rattle.csv.specs.Records.{field_at}
use Rattle.lrs_sheet_records.proofs.Judging.{malformed-from}
use Rattle.lrs_examples.proofs.records.malformed_keys_and_numbers.Goals as goal

pub returns : goal.returns
unfolding field_at
returns c = record {
  no_key = malformed-from _ _ _ refl;
  space_in_key = malformed-from _ _ _ refl;
  key_before_verb = malformed-from _ _ _ refl;
  no_verb = malformed-from _ _ _ refl;
  unknown_verb = malformed-from _ _ _ refl;
  capital_verb = malformed-from _ _ _ refl;
  no_number = malformed-from _ _ _ refl;
  number_zero = malformed-from _ _ _ refl;
  number_with_sign = malformed-from _ _ _ refl;
  number_too_great = malformed-from _ _ _ refl;
  field_too_many = malformed-from _ _ _ refl;
  last_field = malformed-from _ _ _ refl;
  capital_kind = malformed-from _ _ _ refl;
  dash_before_route = malformed-from _ _ _ refl;
  dash_in_referent = malformed-from _ _ _ refl;
}
