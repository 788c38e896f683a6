use Rattle.std.proofs.Common.{Err, ap}
use Rattle.lrs_store.proofs.keeper.Tables.open.Goals as goal

pub returns-in-Err-clause-unsound : goal.returns-in-Err-clause-unsound
returns-in-Err-clause-unsound g c t e = c.in-Err.ensures.unsound t (ap (λ f. Err f) e)

pub returns-in-Err-clause-still : goal.returns-in-Err-clause-still
returns-in-Err-clause-still g c t e = c.in-Err.ensures.still t (ap (λ f. Err f) e)

pub returns-in-Err-clause-failed : goal.returns-in-Err-clause-failed
returns-in-Err-clause-failed g c second e clean = c.in-Err.ensures.failed second (ap (λ f. Err f) e) clean

pub returns-in-Err-clause-cause : goal.returns-in-Err-clause-cause
returns-in-Err-clause-cause g c e clean = c.in-Err.ensures.cause (ap (λ f. Err f) e) clean
