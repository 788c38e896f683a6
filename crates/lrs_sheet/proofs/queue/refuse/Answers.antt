use Rattle.std.proofs.Common.{inr, arith}
use Rattle.std.proofs.lemmas.Result.{err_from_is_err_and}
use Rattle.lrs_machine.specs.Image.{state_of}
use Rattle.lrs_sheet_records.specs.Kinds.{edit_fields}
use Rattle.lrs_machine.specs.declared.answer.Answer.TheVariants.{Refused}
use Rattle.lrs_machine.specs.declared.answer.Cause.TheVariants.{Malformed}
use Rattle.lrs_sheet.proofs.Waits.{refused}
use Rattle.lrs_sheet.proofs.Together.{counts_done}
use Rattle.lrs_sheet.proofs.queue.refuse.Goals as goal

pub returns-in_err-write_reply-clause-stops : goal.returns-in_err-write_reply-clause-stops
returns-in_err-write_reply-clause-stops g c =
    let p = err_from_is_err_and c.from_residual-in_err-write_reply.result c.from_residual-in_err-write_reply.ensures.1 in
    rw (p.1, p.2, c.in_err-write_reply.ensures.faults)
    (inr (inr (g.W.Write.contents c.settle.new.writer, c.settle.new.queue.tally, c.in_ok-settle.ensures.does, c.in_ok-settle.ensures.desk, ((record { key = c.new-key.result; answer = Refused (Malformed c.args.field) }), refused c.args.desk.now.limits (state_of c.settle.new.desk.image) (edit_fields c.args.row.now) c.new-key.result c.args.field (rw c.text_at.ensures at c.new-key.ensures) c.requires.malformed))))

pub count-requires : goal.count-requires
count-requires g c =
    let many = counts_done c.args.desk.now.limits c.args.queue.now.waiting.items (state_of c.args.desk.now.image) (state_of c.settle.new.desk.image) (g.W.Write.contents c.args.writer.now) (g.W.Write.contents c.settle.new.writer) c.args.queue.now.tally c.settle.new.queue.tally c.in_ok-settle.ensures.does in
    omega (arith, many, c.requires.room)

pub returns-clause-takes : goal.returns-clause-takes
returns-clause-takes g c =
    inr (inr (g.W.Write.contents c.settle.new.writer, c.settle.new.queue.tally, c.in_ok-settle.ensures.none, c.in_ok-settle.ensures.does, ((record { key = c.new-key.result; answer = Refused (Malformed c.args.field) }), refused c.args.desk.now.limits (state_of c.settle.new.desk.image) (edit_fields c.args.row.now) c.new-key.result c.args.field (rw c.text_at.ensures at c.new-key.ensures) c.requires.malformed, c.in_ok-write_reply.ensures.written, c.count.ensures)))
