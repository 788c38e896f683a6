use Rattle.lrs_machine.proofs.Stop.Again.{again_where_kept, all_again_where_kept}
use Rattle.lrs_machine.proofs.Stop.Resuming.{new_keys_go_on}
use Rattle.lrs_machine.proofs.Stop.Stopping.{answers_are_of_fold, none_is_doubled, none_is_lost, stored_is_fold, stored_is_lawful}
use Rattle.lrs_promises.proofs.stop.stops.Goals as goal

pub returns : goal.returns
returns c = record {
  stored = stored_is_fold;
  answers = answers_are_of_fold;
  one_in_flight = again_where_kept;
  several_in_flight = all_again_where_kept;
  none_lost = none_is_lost;
  none_doubled = none_is_doubled;
  lawful = stored_is_lawful;
  going_on = new_keys_go_on;
}
