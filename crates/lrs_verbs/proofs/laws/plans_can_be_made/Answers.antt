use Rattle.lrs_verbs.proofs.Made.{plans_can_be_made}
use Rattle.lrs_verbs.proofs.laws.plans_can_be_made.Goals as goal

pub returns : goal.returns
returns c = plans_can_be_made
