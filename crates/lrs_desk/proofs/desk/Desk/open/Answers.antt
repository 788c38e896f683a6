use Rattle.std.proofs.Common.{ap, sym, ◌∙◌, Err}
use Rattle.lrs_desk.proofs.Deciding.{opened_unsound}
use Rattle.lrs_desk.proofs.desk.Desk.open.Goals as goal

pub returns-in-Err-clause-unsound : goal.returns-in-Err-clause-unsound
returns-in-Err-clause-unsound g c = λ t e d h. c.in-Err.ensures.loads.unsound t (ap Err (opened_unsound c.in-Err.fault t (sym c.from.ensures ∙ e))) d h

pub returns-in-Err-clause-named : goal.returns-in-Err-clause-named
returns-in-Err-clause-named g c = λ t e clean. c.in-Err.ensures.loads.named t (ap Err (opened_unsound c.in-Err.fault t (sym c.from.ensures ∙ e))) clean
