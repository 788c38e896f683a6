use Rattle.std.proofs.lemmas.Result.{err_from_is_err_and}
use Rattle.lrs_web_requests.specs.Query.{parameter}
use Rattle.lrs_web_replies.specs.Questions.{SaysNumber}
use Rattle.lrs_web_replies.proofs.Said.{not_given}
use Rattle.lrs_web_replies.proofs.parameters.number_in.Goals as goal

pub returns-in_err-number-clause-unread : goal.returns-in_err-number-clause-unread
returns-in_err-number-clause-unread c =
    let e = err_from_is_err_and c.from_residual.result c.from_residual.ensures.1 in
    rw (e.1, e.2) (not_given (SaysNumber c.args.least c.args.greatest) (parameter c.args.name.now c.args.query.now) c.args.fault c.in_err-number.field-0.0 c.in_err-number.ensures.unread)
