use Rattle.std.proofs.Common.{Err, ap}
use Rattle.std.proofs.lemmas.Result.{err_from_is_err_and}
use Rattle.lrs_sheet.proofs.Answering.{stops_alone}
use Rattle.lrs_sheet.proofs.queue.act_alone.Goals as goal

pub returns-in_err-answer-clause-stops : goal.returns-in_err-answer-clause-stops
returns-in_err-answer-clause-stops g c =
    let p = err_from_is_err_and c.from_residual.result c.from_residual.ensures.1 in
    rw (p.1, p.2)
    (stops_alone g.K.Holder.may_hold c.args.desk.now c.act.new.self c.args.command.now (g.W.Write.contents c.args.writer.now) c.in_err-answer.field-0.0
    (λ e. c.in_err-answer.ensures.memory (ap Err e)) (λ e. c.in_err-answer.ensures.keep (ap Err e)) (λ e. c.in_err-answer.ensures.stays (ap Err e)))
