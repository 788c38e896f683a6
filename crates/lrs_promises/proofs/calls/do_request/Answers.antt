use Rattle.std.proofs.Common.{ℕ, Some, Ok, ap, inl, inr, refl, subst, ◌∙◌}
use Rattle.lrs_web.specs.RequestAnswers.{Writes}
use Rattle.lrs_promises.proofs.Amid.{request_left}
use Rattle.lrs_promises.proofs.Served.{did_request}
use Rattle.lrs_promises.proofs.calls.do_request.Goals as goal

pub returns-in-Ok-clause-done : goal.returns-in-Ok-clause-done
returns-in-Ok-clause-done g c =
    let (answer, writes, serves) = c.in-Ok.ensures.served in
    let written = c.serve_one.new.writer.items in
    did_request g.K.Holder.may_hold c.args.bytes.now written c.args.desk.now c.serve_one.new.desk c.in-Ok.field-0 answer c.in-Ok.field-0-test.1
    (subst (λ old. Writes (Some old) (Some written) c.in-Ok.field-0 answer) c.new-reply.ensures.items writes) serves

pub returns-in-Ok-eq503-clause-left : goal.returns-in-Ok-eq503-clause-left
returns-in-Ok-eq503-clause-left g c =
    let e = c.serve_one.ensures in
    let written = c.serve_one.new.writer.items in
    record {
      ended = c.serve_one.result;
      is = inl (c.in-Ok-eq503.is ∙ ap (λ (status : ℕ). Ok status) c.in-Ok-eq503.field-0-test, refl);
      reply = written;
      left = request_left g.K.Holder.may_hold c.args.desk.now c.serve_one.new.desk c.args.bytes.now c.new-reply.result.items written c.serve_one.result c.new-reply.ensures.items e.served e.answered e.write e.read e.left;
    }

pub returns-in-Err-clause-left : goal.returns-in-Err-clause-left
returns-in-Err-clause-left g c =
    let e = c.serve_one.ensures in
    let written = c.serve_one.new.writer.items in
    record {
      ended = c.serve_one.result;
      is = inr (c.in-Err.fault, c.in-Err.is, refl);
      reply = written;
      left = request_left g.K.Holder.may_hold c.args.desk.now c.serve_one.new.desk c.args.bytes.now c.new-reply.result.items written c.serve_one.result c.new-reply.ensures.items e.served e.answered e.write e.read e.left;
    }
