use Rattle.std.proofs.Common.{refl}
use Rattle.csv.specs.Records.{field_at}
use Rattle.lrs_sheet_records.proofs.Judging.{says-from}
use Rattle.lrs_examples.proofs.records.records_of_each_verb.Goals as goal

pub returns : goal.returns
unfolding field_at
returns c = record {
  new_link = says-from _ _ _ _ refl refl refl refl refl refl;
  zeros_before_numbers = says-from _ _ _ _ refl refl refl refl refl refl;
  greatest_link = says-from _ _ _ _ refl refl refl refl refl refl;
  new_class = says-from _ _ _ _ refl refl refl refl refl refl;
  new_route = says-from _ _ _ _ refl refl refl refl refl refl;
  zeros_in_lists = says-from _ _ _ _ refl refl refl refl refl refl;
  ends_in_no_order = says-from _ _ _ _ refl refl refl refl refl refl;
  ref_by_measure = says-from _ _ _ _ refl refl refl refl refl refl;
  ref_behind_another = says-from _ _ _ _ refl refl refl refl refl refl;
  ref_before_another = says-from _ _ _ _ refl refl refl refl refl refl;
  no_distance = says-from _ _ _ _ refl refl refl refl refl refl;
  ref_by_proportion = says-from _ _ _ _ refl refl refl refl refl refl;
  whole_proportion = says-from _ _ _ _ refl refl refl refl refl refl;
  ref_goes = says-from _ _ _ _ refl refl refl refl refl refl;
  stretch_entered = says-from _ _ _ _ refl refl refl refl refl refl;
  point_entered = says-from _ _ _ _ refl refl refl refl refl refl;
  point_with_an_end = says-from _ _ _ _ refl refl refl refl refl refl;
  stretch_past_referents = says-from _ _ _ _ refl refl refl refl refl refl;
  stretch_retired = says-from _ _ _ _ refl refl refl refl refl refl;
  point_retired = says-from _ _ _ _ refl refl refl refl refl refl;
  route_split = says-from _ _ _ _ refl refl refl refl refl refl;
  routes_joined = says-from _ _ _ _ refl refl refl refl refl refl;
  route_renumbered = says-from _ _ _ _ refl refl refl refl refl refl;
  route_recalibrated = says-from _ _ _ _ refl refl refl refl refl refl;
  route_realigned = says-from _ _ _ _ refl refl refl refl refl refl;
  realigned_away = says-from _ _ _ _ refl refl refl refl refl refl;
  route_closed = says-from _ _ _ _ refl refl refl refl refl refl;
  stretch_superseded = says-from _ _ _ _ refl refl refl refl refl refl;
  point_superseded = says-from _ _ _ _ refl refl refl refl refl refl;
  route_turned = says-from _ _ _ _ refl refl refl refl refl refl;
  empty_fields_behind = says-from _ _ _ _ refl refl refl refl refl refl;
}
