use Rattle.std.proofs.lemmas.Result.{err_from_is_err_and}
use Rattle.lrs_web_replies.proofs.Said.{lacks_first}
use Rattle.lrs_web_replies.proofs.parameters.first_edit_in.Goals as goal

pub returns-in_err-number-clause-unread : goal.returns-in_err-number-clause-unread
returns-in_err-number-clause-unread c =
    let e = err_from_is_err_and c.from_residual.result c.from_residual.ensures.1 in
    rw (e.1, e.2) (lacks_first c.args.query.now c.in_err-number.field-0.0 c.in_err-number.ensures.unread)
