use Rattle.std.proofs.Common.{Err, ap, sym, subst, ◌∙◌}
use Rattle.lrs_machine.specs.Image.{state_of}
use Rattle.lrs_machine.specs.Machine.{Outcome, answer_known, place_of_key}
use Rattle.lrs_inventory.specs.Plans.{Plans}
use Rattle.lrs_desk.proofs.Deciding.{step-known, step-limited, step-refused, is_done, place_before, no_place, new_key}
use Rattle.lrs_desk.proofs.decision.decide.Goals as goal

pub returns-in-Some : goal.returns-in-Some
returns-in-Some c =
    let i = c.args.inventory.now in
    let found = place_before c.in-Some.number (place_of_key c.args.key.now (state_of i).done) c.in-Some.ensures.number in
    let line = c.in-Some.ensures.line found.0 found.2 in
    record {
      decided = step-known c.args.limits.now c.args.key.now c.args.command.now (state_of i) found.0 found.1
          ∙ ap (λ answer. let o : Outcome = record { answer = answer; state = state_of i } in o) (sym (c.known_answer.ensures ∙ (λ j. answer_known (found.2 j) (line j) (c.requires.line j))));
    }

pub returns-in-Some-lacks_room : goal.returns-in-Some-lacks_room
returns-in-Some-lacks_room c =
    let i = c.args.inventory.now in
    let none = new_key c.args.key.now i (no_place (place_of_key c.args.key.now (state_of i).done) c.in_default.ensures.number) in
    record { decided = step-limited c.args.limits.now c.args.key.now c.args.command.now i none _ (c.in-Some-lacks_room.ensures).none }

pub returns-in-Ok : goal.returns-in-Ok
returns-in-Ok c =
    let i = c.args.inventory.now in
    let none = new_key c.args.key.now i (no_place (place_of_key c.args.key.now (state_of i).done) c.in_default.ensures.number) in
    record { decided = is_done c.args.limits.now c.args.key.now c.args.command.now i none c.in-Ok.plan c.prove_sound.ensures (c.in_default-lacks_room.ensures).room c.in-Ok.ensures }

pub returns-in_ok-cause-in-Err : goal.returns-in_ok-cause-in-Err
returns-in_ok-cause-in-Err c =
    let i = c.args.inventory.now in
    let none = new_key c.args.key.now i (no_place (place_of_key c.args.key.now (state_of i).done) c.in_default.ensures.number) in
    record { decided = step-refused c.args.limits.now c.args.key.now c.args.command.now i none c.in_ok-cause-in-Err.cause (c.in_default-lacks_room.ensures).room (subst (λ stop. Plans c.args.command.now i (Err stop)) c.in_ok-cause-in-Err.ensures c.in-Err.ensures) }
