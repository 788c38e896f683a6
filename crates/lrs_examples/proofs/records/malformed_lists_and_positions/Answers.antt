use Rattle.std.proofs.Common.{refl}
use Rattle.csv.specs.Records.{field_at}
use Rattle.lrs_sheet_records.proofs.Judging.{malformed-from}
use Rattle.lrs_examples.proofs.records.malformed_lists_and_positions.Goals as goal

pub returns : goal.returns
unfolding field_at
returns c = record {
  no_pieces = malformed-from _ _ _ refl;
  two_spaces = malformed-from _ _ _ refl;
  space_behind = malformed-from _ _ _ refl;
  piece_without_direction = malformed-from _ _ _ refl;
  piece_too_long = malformed-from _ _ _ refl;
  one_mark = malformed-from _ _ _ refl;
  mark_of_three = malformed-from _ _ _ refl;
  no_method = malformed-from _ _ _ refl;
  method_of_requests = malformed-from _ _ _ refl;
  capital_method = malformed-from _ _ _ refl;
  no_position = malformed-from _ _ _ refl;
  proportion_as_measure = malformed-from _ _ _ refl;
  distance_as_measure = malformed-from _ _ _ refl;
  measure_as_proportion = malformed-from _ _ _ refl;
  measure_as_distance = malformed-from _ _ _ refl;
  referent_without_distance = malformed-from _ _ _ refl;
  two_signs = malformed-from _ _ _ refl;
  distance_alone = malformed-from _ _ _ refl;
  small_referent = malformed-from _ _ _ refl;
  too_far = malformed-from _ _ _ refl;
  measure_too_great = malformed-from _ _ _ refl;
  measure_with_sign = malformed-from _ _ _ refl;
  above_the_whole = malformed-from _ _ _ refl;
  by_zero = malformed-from _ _ _ refl;
  terms_too_great = malformed-from _ _ _ refl;
  below_zero = malformed-from _ _ _ refl;
  three_terms = malformed-from _ _ _ refl;
}
