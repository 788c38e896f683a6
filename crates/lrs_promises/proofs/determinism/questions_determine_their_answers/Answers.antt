use Rattle.lrs_promises.proofs.Ends.{questions_end_alike}
use Rattle.lrs_promises.proofs.determinism.questions_determine_their_answers.Goals as goal

pub returns : goal.returns
returns g c = questions_end_alike g.K.Holder.may_hold g.J.Holder.may_hold
