use Rattle.lrs_web_requests.specs.Request.{asked_by, page_text}
use Rattle.lrs_web_requests.specs.Text.{answer_of}
use Rattle.lrs_web.proofs.Responding.{responded}
use Rattle.lrs_web.proofs.Visiting.{cut_by, full_by}
use Rattle.lrs_web.proofs.door.serve_by.Goals as goal

pub returns-in-Ok-clause-full : goal.returns-in-Ok-clause-full
returns-in-Ok-clause-full g c =
    let asked = asked_by c.in-Ok.task in
    let before = g.W.Write.contents c.args.writer.now in
    let after = g.W.Write.contents c.write_to.new.writer in
    let old = c.args.desk.now in
    let new = c.do_task-reply.new.desk in
    λ yes. full_by g.K.Holder.may_hold (page_text c.args.page) (g.R.Read.remaining c.args.reader.now) before after asked old new c.write_to.result c.in-Ok.ensures.asked
    (responded g.K.Holder.may_hold before after asked old new (answer_of c.do_task-reply.result) c.write_to.result c.do_task-reply.ensures c.write_to.ensures.written) (c.is_full.ensures yes)

pub returns-in-Ok-clause-cut : goal.returns-in-Ok-clause-cut
returns-in-Ok-clause-cut g c =
    cut_by g.K.Holder.may_hold (page_text c.args.page) (g.R.Read.remaining c.args.reader.now) (asked_by c.in-Ok.task) c.args.desk.now c.do_task-reply.new.desk c.in-Ok.ensures.asked
    (answer_of c.do_task-reply.result, c.do_task-reply.ensures)
