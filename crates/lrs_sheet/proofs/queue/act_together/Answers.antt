use Rattle.std.proofs.Common.{Err, ap}
use Rattle.std.proofs.lemmas.Result.{err_from_is_err_and}
use Rattle.lrs_machine.specs.Image.{state_of}
use Rattle.lrs_sheet.proofs.Answering.{does_first, stops_together, wrote_some}
use Rattle.lrs_sheet.proofs.queue.act_together.Goals as goal

pub returns-in_err-done-clause-stops : goal.returns-in_err-done-clause-stops
returns-in_err-done-clause-stops g c =
    let p = err_from_is_err_and c.from_residual.result c.from_residual.ensures.1 in
    rw (p.1, p.2)
    (stops_together g.K.Holder.may_hold c.args.desk.now c.act_on_first.new.self c.args.commands.now (g.W.Write.contents c.args.writer.now) c.in_err-done.field-0.0 c.requires.several
    (λ e. c.in_err-done.ensures.memory (ap Err e)) (λ e. c.in_err-done.ensures.keep (ap Err e)) (λ e. c.in_err-done.ensures.stays (ap Err e)))

pub returns-in_err-write_answers-clause-stops : goal.returns-in_err-write_answers-clause-stops
returns-in_err-write_answers-clause-stops g c =
    let p = err_from_is_err_and c.from_residual-in_err-write_answers.result c.from_residual-in_err-write_answers.ensures.1 in
    rw (p.1, p.2, c.in_err-write_answers.ensures.faults)
    (wrote_some g.K.Holder.may_hold c.args.commands.now c.in_ok-done.done.answers.items c.args.desk.now c.act_on_first.new.self (g.W.Write.contents c.args.writer.now) (g.W.Write.contents c.write_answers.new.writer) c.in_ok-done.ensures.does)

pub returns-clause-does : goal.returns-clause-does
returns-clause-does g c =
    rw (c.len.ensures, c.in_ok-done.done.answers.ok.0)
    (does_first c.args.desk.now.limits c.args.commands.now c.in_ok-done.done.answers.items (state_of c.args.desk.now.image) (state_of c.act_on_first.new.self.image) (g.W.Write.contents c.args.writer.now) (g.W.Write.contents c.write_answers.new.writer) c.args.tally.now c.write_answers.new.tally
    c.in_ok-done.ensures.does (rw c.deref.ensures.value at c.in_ok-write_answers.ensures.written) (rw c.deref.ensures.value at c.in_ok-write_answers.ensures.counted))
