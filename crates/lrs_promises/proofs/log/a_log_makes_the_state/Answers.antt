use Rattle.lrs_promises.proofs.Again.{log_makes_state}
use Rattle.lrs_promises.proofs.log.a_log_makes_the_state.Goals as goal

pub returns : goal.returns
returns c = log_makes_state
