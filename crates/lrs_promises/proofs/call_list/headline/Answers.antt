use Rattle.std.proofs.Common.{map, subst}
use Rattle.lrs_machine.specs.Sound.{IsSound}
use Rattle.lrs_promises.specs.Calls.{DidAll}
use Rattle.lrs_promises.specs.Headline.{IsTheGroundMachines}
use Rattle.lrs_promises.proofs.Laws.{headline, if_ok}
use Rattle.lrs_promises.proofs.call_list.headline.Goals as goal

pub returns-clause-done : goal.returns-clause-done
returns-clause-done g c =
    let holds = g.K.Holder.may_hold in
    let clean = g.K.Holder.is_clean in
    let calls = c.args.calls.now in
    let old = c.args.desk.now in
    let new = c.do_all-written.new.desk in
    let sound = subst (λ i. IsSound i) c.inventory.ensures c.prove_sound.ensures in
    if_ok (λ w. DidAll holds calls (map (λ t. t.items) w.items) old new) (λ w. IsTheGroundMachines holds clean calls (map (λ t. t.items) w.items) old new)
    c.do_all-written.result (λ w did. headline holds clean calls (map (λ t. t.items) w.items) old new sound c.prove_kept.ensures.kept c.prove_kept.ensures.found did) c.do_all-written.ensures.done
