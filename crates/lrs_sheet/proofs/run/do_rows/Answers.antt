use Rattle.std.proofs.Common.{arith}
use Rattle.std.proofs.lemmas.Result.{err_from_is_err_and}
use Rattle.lrs_sheet.proofs.Taking.{ended, ended_amid}
use Rattle.lrs_sheet.proofs.run.do_rows.Goals as goal

pub returns-in_err-unread : goal.returns-in_err-unread
returns-in_err-unread g c =
    let p = err_from_is_err_and c.from_residual.result c.from_residual.ensures.1 in
    rw (p.1, p.2) c.in_err-unread.ensures.stops

pub returns-in_err-settle : goal.returns-in_err-settle
returns-in_err-settle g c =
    let p = err_from_is_err_and c.from_residual-in_err-settle.result c.from_residual-in_err-settle.ensures.1 in
    rw (p.1, p.2) (ended_amid c.args.run g.R.Read.remaining c.args.rows.now c.args.desk.now c.take_rows.new.desk c.settle.new.desk (g.W.Write.contents c.args.writer.now) (g.W.Write.contents c.take_rows.new.writer) (g.W.Write.contents c.settle.new.writer) c.take_rows.new.queue.tally c.settle.new.queue.tally c.take_rows.new.queue.waiting.items
    c.in_ok-unread.unread _ (omega (arith, c.in_ok-unread.ensures.few)) c.in_ok-unread.ensures.taken c.in_err-settle.ensures.stops c.in_err-settle.ensures.desk)

pub returns-in-Some : goal.returns-in-Some
returns-in-Some g c =
    (ended c.args.run g.R.Read.remaining c.args.rows.now c.args.desk.now c.take_rows.new.desk c.settle.new.desk (g.W.Write.contents c.args.writer.now) (g.W.Write.contents c.take_rows.new.writer) (g.W.Write.contents c.settle.new.writer) c.take_rows.new.queue.tally c.settle.new.queue.tally c.take_rows.new.queue.waiting.items
    c.in_ok-unread.unread c.in_ok-unread.ensures.taken c.in_ok-settle.ensures.does c.in_ok-settle.ensures.desk).1 c.in-Some.fault c.in-Some.is

pub returns : goal.returns
returns g c =
    (ended c.args.run g.R.Read.remaining c.args.rows.now c.args.desk.now c.take_rows.new.desk c.settle.new.desk (g.W.Write.contents c.args.writer.now) (g.W.Write.contents c.take_rows.new.writer) (g.W.Write.contents c.settle.new.writer) c.take_rows.new.queue.tally c.settle.new.queue.tally c.take_rows.new.queue.waiting.items
    c.in_ok-unread.unread c.in_ok-unread.ensures.taken c.in_ok-settle.ensures.does c.in_ok-settle.ensures.desk).0 c.in-None.is
