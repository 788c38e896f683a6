use Rattle.lrs_promises.proofs.AsTried.{all_or_none_is_as_tried}
use Rattle.lrs_promises.proofs.determinism.a_sheet_is_done_as_it_was_tried.Goals as goal

pub returns : goal.returns
returns g c = all_or_none_is_as_tried g.K.Holder.may_hold
