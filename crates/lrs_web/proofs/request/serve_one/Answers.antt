use Rattle.lrs_web_requests.specs.Request.{asked_by}
use Rattle.lrs_web_requests.specs.Text.{answer_of}
use Rattle.lrs_web.proofs.Responding.{nothing_done, refused_ok, responded, serves_ok, serves_done, some_asked, unserved}
use Rattle.lrs_web.proofs.request.serve_one.Goals as goal

-- src/serving.rt:145:9
pub returns-in_default-clause-write : goal.returns-in_default-clause-write
returns-in_default-clause-write g c = λ _. unserved g.K.Holder.may_hold (g.R.Read.remaining c.args.reader.now) c.args.desk.now

-- src/serving.rt:143:1
pub returns-in-Ok-receive-clause-served : goal.returns-in-Ok-receive-clause-served
returns-in-Ok-receive-clause-served g c =
    let asked = asked_by c.in-Ok-receive.task in
    let before = g.W.Write.contents c.args.writer.now in
    let after = g.W.Write.contents c.write_to.new.writer in
    let old = c.args.desk.now in
    let new = c.do_task-reply.new.desk in
    serves_ok g.K.Holder.may_hold (g.R.Read.remaining c.args.reader.now) before after asked old new c.write_to.result c.in-Ok-receive.ensures.asked
    (responded g.K.Holder.may_hold before after asked old new (answer_of c.do_task-reply.result) c.write_to.result c.do_task-reply.ensures c.write_to.ensures.written)

-- src/serving.rt:143:1
pub returns-in-Ok-receive-clause-write : goal.returns-in-Ok-receive-clause-write
returns-in-Ok-receive-clause-write g c =
    λ _. serves_done g.K.Holder.may_hold (g.R.Read.remaining c.args.reader.now) (asked_by c.in-Ok-receive.task) c.args.desk.now c.do_task-reply.new.desk
    c.in-Ok-receive.ensures.asked (answer_of c.do_task-reply.result, c.do_task-reply.ensures)

-- src/serving.rt:143:1
pub returns-in-Err-Memory-clause-write : goal.returns-in-Err-Memory-clause-write
returns-in-Err-Memory-clause-write g c = λ _. unserved g.K.Holder.may_hold (g.R.Read.remaining c.args.reader.now) c.args.desk.now

pub returns-in_default-clause-left : goal.returns-in_default-clause-left
returns-in_default-clause-left g c = nothing_done g.K.Holder.may_hold c.args.desk.now

pub returns-in-Ok-receive-clause-left : goal.returns-in-Ok-receive-clause-left
returns-in-Ok-receive-clause-left g c = (asked_by c.in-Ok-receive.task, answer_of c.do_task-reply.result, c.do_task-reply.ensures)

pub returns-in-Err-Memory-clause-left : goal.returns-in-Err-Memory-clause-left
returns-in-Err-Memory-clause-left g c = nothing_done g.K.Holder.may_hold c.args.desk.now

pub returns-clause-left : goal.returns-clause-left
returns-clause-left g c = nothing_done g.K.Holder.may_hold c.args.desk.now

pub returns-in_default-clause-answered : goal.returns-in_default-clause-answered
returns-in_default-clause-answered g c =
    refused_ok g.K.Holder.may_hold (g.W.Write.contents c.args.writer.now) (g.W.Write.contents c.refuse.new.writer) c.args.desk.now c.refuse.result c.refuse.ensures.written

pub returns-in-Ok-receive-clause-answered : goal.returns-in-Ok-receive-clause-answered
returns-in-Ok-receive-clause-answered g c =
    let asked = asked_by c.in-Ok-receive.task in
    let before = g.W.Write.contents c.args.writer.now in
    let after = g.W.Write.contents c.write_to.new.writer in
    let old = c.args.desk.now in
    let new = c.do_task-reply.new.desk in
    some_asked g.K.Holder.may_hold before after asked old new c.write_to.result
    (responded g.K.Holder.may_hold before after asked old new (answer_of c.do_task-reply.result) c.write_to.result c.do_task-reply.ensures c.write_to.ensures.written)

pub returns-in-Err-Memory-clause-answered : goal.returns-in-Err-Memory-clause-answered
returns-in-Err-Memory-clause-answered g c =
    refused_ok g.K.Holder.may_hold (g.W.Write.contents c.args.writer.now) (g.W.Write.contents c.refuse-in-Err-Memory.new.writer) c.args.desk.now c.refuse-in-Err-Memory.result c.refuse-in-Err-Memory.ensures.written
