use Rattle.std.proofs.Common.{◌++◌, ◌∷◌, [], ◌+◌, inl, inr, ap, length, refl, sym, subst, ◌∙◌}
use Rattle.lrs_machine.specs.declared.image.Edit.{Edit}
use Rattle.lrs_machine.specs.Image.{state_of}
use Rattle.lrs_machine.specs.Machine.{Outcome, step}
use Rattle.lrs_machine.specs.Sound.{IsSound}
use Rattle.lrs_image.specs.Change.{apply, CanMake}
use Rattle.lrs_inventory.specs.Plans.{change_of}
use Rattle.lrs_machine.specs.declared.answer.Answer.{Answer}
use Rattle.lrs_desk.specs.Decisions.{IsDecision}
use Rattle.lrs_desk.specs.Group.{GoesOnBy}
use Rattle.lrs_desk.proofs.Grouping.{follows_still, follows_with}
use Rattle.lrs_desk.proofs.group.do_next.Goals as goal

pub returns-in_ok-answer-in-Make : goal.returns-in_ok-answer-in-Make
returns-in_ok-answer-in-Make g c =
    let i = c.args.inventory.now in
    let plan = c.in-Make.plan in
    let d = subst (IsDecision c.args.limits.now c.args.key.now c.args.command.now i) c.in-Make.is c.in_ok-answer.ensures.decided in
    let edit : Edit = record { key = c.args.key.now; line = c.in_ok-line.line } in
    let same = ap (λ line. let e : Edit = record { key = c.args.key.now; line = line } in e) c.in_ok-line.ensures in
    let made = c.in_ok-answer-in-Make in
    let answer = ap (λ (o : Outcome). o.answer) d.outcome in
    let can : CanMake (change_of edit plan) i = record { differ = d.is_plan.differ; sound = subst (λ (e : Edit). IsSound (apply (change_of e plan) i)) (sym same) d.sound } in
    record {
      does = record {
        answered = c.push_in_room-in-Make.ensures.items ∙ (λ j. c.reserve.ensures.items j ++ (made.ensures.answer ∙ sym answer) j ∷ []);
        state = ap state_of made.ensures.ok ∙ ap (λ (e : Edit). state_of (apply (change_of e plan) i)) same ∙ sym (ap (λ (o : Outcome). o.state) d.outcome);
        changed = inr (record {
          change = change_of edit plan;
          can = can;
          made = made.ensures.ok;
          kept = made.ensures.staged;
        });
        goes_on = follows_with (step c.args.limits.now c.args.key.now c.args.command.now (state_of i)).answer (length i.edits + 1) answer (g.K.Keeper.staged c.args.keeper.now) (g.K.Keeper.staged c.make.new.keeper) (change_of edit plan)
            made.ensures.staged c.args.rows c.rows_with-next.result c.requires.listed c.rows_with-next.ensures.few c.rows_with-next.ensures.many;
      };
      memory = tt;
      given = tt;
      not_staged = tt;
      rest = made.ensures.rest;
      counted = made.ensures.counted;
    }

pub returns-in-Stay-clause-does : goal.returns-in-Stay-clause-does
returns-in-Stay-clause-does g c =
    let i = c.args.inventory.now in
    let d = subst (IsDecision c.args.limits.now c.args.key.now c.args.command.now i) c.in-Stay.is c.in_ok-answer.ensures.decided in
    let answer = ap (λ (o : Outcome). o.answer) d in
    record {
      answered = c.push_in_room.ensures.items ∙ (λ j. c.reserve.ensures.items j ++ sym answer j ∷ []);
      state = sym (ap (λ (o : Outcome). o.state) d);
      changed = inl (refl, refl);
      goes_on = subst (λ (a : Answer). GoesOnBy a (g.K.Keeper.staged c.args.keeper.now) c.rows_behind-next.result) (sym answer)
          (follows_still c.in-Stay.answer (g.K.Keeper.staged c.args.keeper.now) c.args.rows c.rows_behind-next.result c.requires.listed c.requires.few c.rows_behind-next.ensures.accepted c.rows_behind-next.ensures.refused);
    }
