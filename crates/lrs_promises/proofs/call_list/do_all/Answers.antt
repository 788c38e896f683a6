use Rattle.std.proofs.Common.{[], ◌∷◌, ◌+◌, ap, inl, inr, map, refl, subst, sym, take, ◌∙◌}
use Rattle.std.proofs.lemmas.List.{map-append}
use Rattle.lrs_machine.specs.Sound.{IsSound}
use Rattle.lrs_promises.specs.Calls.{DidAll}
use Rattle.lrs_promises.proofs.Given.{did_next}
use Rattle.lrs_promises.specs.Headline.{HasStopped}
use Rattle.lrs_promises.specs.declared.calls.CallFault.TheVariants as why
use Rattle.lrs_promises.proofs.Stopped.{if_fault, stopped_at}
use Rattle.lrs_promises.proofs.call_list.do_all.Goals as goal

pub loop-call-preserved : goal.loop-call-preserved
loop-call-preserved g c =
    let holds = g.K.Holder.may_hold in
    let calls = c.args.calls.now in
    let i = c.loop-call.call-index in
    let before = c.loop-call.written.items in
    let text = c.in_ok-text.text in
    let sound = subst (λ i. IsSound i) c.inventory.ensures c.prove_sound.ensures in
    let next = did_next holds calls i (map (λ t. t.items) before) c.call-item.result text.items c.args.desk.now c.loop-call.desk c.do_call.new.desk c.loop-call-test.true c.call-item.is
    c.loop-call.invariant c.in_ok-text.ensures.done sound in
    subst (λ texts. DidAll holds (take (i + 1) calls) texts c.args.desk.now c.do_call.new.desk)
    (sym (ap (map (λ t. t.items)) c.in_ok-push.ensures.items ∙ map-append (λ t. t.items) before (text ∷ []))) next

pub returns-in_err-text-clause-stopped : goal.returns-in_err-text-clause-stopped
returns-in_err-text-clause-stopped g c =
    let holds = g.K.Holder.may_hold in
    if_fault (λ fault. HasStopped holds c.args.calls.now fault c.args.desk.now c.do_call.new.desk) c.in_err-text.field-0.0 c.from_residual.result c.from_residual.ensures.1
    (stopped_at holds c.args.calls.now c.loop-call.call-index (map (λ t. t.items) c.loop-call.written.items) c.call-item.result c.in_err-text.field-0.0
    c.args.desk.now c.loop-call.desk c.do_call.new.desk c.loop-call-test.true c.call-item.is c.loop-call.invariant (inl c.in_err-text.ensures.left))

pub returns-in_err-push-clause-stopped : goal.returns-in_err-push-clause-stopped
returns-in_err-push-clause-stopped g c =
    let holds = g.K.Holder.may_hold in
    if_fault (λ fault. HasStopped holds c.args.calls.now fault c.args.desk.now c.do_call.new.desk) why.Memory c.from_residual-in_err-push.result c.from_residual-in_err-push.ensures.1
    (stopped_at holds c.args.calls.now c.loop-call.call-index (map (λ t. t.items) c.loop-call.written.items) c.call-item.result why.Memory
    c.args.desk.now c.loop-call.desk c.do_call.new.desk c.loop-call-test.true c.call-item.is c.loop-call.invariant (inr (refl, c.in_ok-text.text.items, c.in_ok-text.ensures.done)))
