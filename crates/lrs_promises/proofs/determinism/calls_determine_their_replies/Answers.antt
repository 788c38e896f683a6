use Rattle.lrs_promises.proofs.Ends.{calls_end_alike}
use Rattle.lrs_promises.proofs.determinism.calls_determine_their_replies.Goals as goal

pub returns : goal.returns
returns g c = calls_end_alike g.K.Holder.may_hold g.J.Holder.may_hold
