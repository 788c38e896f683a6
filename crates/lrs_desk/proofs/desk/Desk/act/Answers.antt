use Rattle.std.proofs.Common.{◌≡◌, ◌≤◌, ℕ, ◌+◌, true, false, [], ◌∷◌, length, Err, IfOk, OnOk, OnErr, ap, sym, subst, rules, ◌∙◌}
use Rattle.std.proofs.lemmas.Bool.{false≢true}
use Rattle.lrs_machine.specs.declared.answer.Answer.{Answer}
use Rattle.lrs_machine.specs.declared.answer.Answer.TheVariants.{Done}
use Rattle.lrs_machine.specs.declared.image.Edit.{Edit}
use Rattle.lrs_machine.specs.Image.{state_of}
use Rattle.lrs_machine.specs.Machine.{Outcome, step}
use Rattle.lrs_image.specs.Change.{apply}
use Rattle.lrs_image.specs.KeeperCalls.{HasRisen}
use Rattle.lrs_inventory.specs.Plans.{change_of}
use Rattle.lrs_desk.specs.Decisions.{IsDecision}
use Rattle.lrs_desk.specs.Desk.{IsOldOrNext}
use Rattle.lrs_desk.specs.DeskView.{DeskView}
use Rattle.lrs_machine.specs.declared.stops.fault.Fault.TheVariants.{Keep}
use Rattle.lrs_desk.proofs.Deciding.{old_or_next}
use Rattle.lrs_desk.proofs.Grouping.{held, kept_after}
use Rattle.lrs_desk.proofs.Made.{if_ok, on_ok, on_any, kept_then}
use Rattle.lrs_desk.proofs.desk.Desk.act.Goals as goal

pub returns-after-matches : goal.returns-after-matches
returns-after-matches g c =
    let i = c.self.inside.inventory in
    let key = c.args.key in
    let command = c.args.command.now in
    let plan = c.in-Make.plan in
    let made = c.make-made.result in
    let new = c.make-made.new in
    let may = g.K.Holder.may_hold new.keeper in
    let is = c.make-made.ensures in
    let d = subst (IsDecision c.self.inside.limits key command i) c.in-Make.is c.in_ok-decision.ensures.decided in
    let edit : Edit = record { key = key; line = c.in_ok-line.line } in
    let same = ap (λ line. let e : Edit = record { key = key; line = line } in e) c.in_ok-line.ensures in
    let seen = c.self.view_is in
    let content = kept_then may new.inventory (apply (change_of edit plan) i) made is.ok is.keeps.ok in
    record {
      answer = subst (λ (v : DeskView g.row.K.Denot). IfOk made (λ (a : Answer). a ≡ (step v.limits key command (state_of v.image)).answer)) seen
          (if_ok made (λ a e. e ∙ sym (ap (λ (o : Outcome). o.answer) d.outcome)) is.answer);
      image = subst (λ (v : DeskView g.row.K.Denot). OnOk made (state_of new.inventory ≡ (step v.limits key command (state_of v.image)).state)) seen
          (on_ok made (λ e. ap state_of e ∙ ap (λ (e : Edit). state_of (apply (change_of e plan) i)) same ∙ sym (ap (λ (o : Outcome). o.state) d.outcome)) is.ok);
      content = content;
      found = λ shut clean.
          let no_failure : made ≡ Err Keep → ⊥ = λ e. (let failed : c.match-matches.self ≡ true = search rules in false≢true (sym shut ∙ failed)) in
          held may new.inventory
          (kept_after (g.K.Holder.may_hold c.self.inside.keeper) may i new.inventory _ made (c.self.invariant.kept c.if-self.false) is.ok is.keeps.ok is.err is.keeps.none is.only no_failure)
          (g.met.K.Keeper.finds new.keeper clean (is.keeps.reached no_failure clean));
      memory = λ e. record {
        image = subst (λ r. OnErr r (new.inventory ≡ i)) e is.err ∙ ap (λ (v : DeskView g.row.K.Denot). v.image) seen;
        content = λ found h. subst (λ (v : DeskView g.row.K.Denot). g.K.Holder.may_hold v.keeper found) seen (is.keeps.none e found h);
        must_reopen = search rules;
        is_ahead = ap (λ (v : DeskView g.row.K.Denot). v.is_ahead) seen;
      };
      keep = λ e. record {
        done = subst (λ (v : DeskView g.row.K.Denot). (number : ℕ) × ((step v.limits key command (state_of v.image)).answer ≡ Done number)) seen (length i.edits + 1, ap (λ (o : Outcome). o.answer) d.outcome);
        image = subst (λ r. OnErr r (new.inventory ≡ i)) e is.err ∙ ap (λ (v : DeskView g.row.K.Denot). v.image) seen;
        content = λ found h.
            subst (λ (v : DeskView g.row.K.Denot). IsOldOrNext v.limits (record { key = key; command = command } ∷ []) v.image found) seen
            (old_or_next c.self.inside.limits key command i plan edit d same found (is.keeps.either e found h));
        must_reopen = search rules;
        is_ahead = c.self.invariant.behind c.if-self.false;
        cause = subst (λ (v : DeskView g.row.K.Denot). HasRisen v.failures (g.K.Holder.failures new.keeper)) seen (is.keeps.cause e);
      };
      counts = subst (λ (v : DeskView g.row.K.Denot). v.failures ≤ g.K.Holder.failures new.keeper) seen is.keeps.counts;
      reopen = (λ e. absurd (is.only e), λ yes. absurd (false≢true (sym c.if-self.false ∙ ap (λ (v : DeskView g.row.K.Denot). v.must_reopen) seen ∙ yes)));
      stays = λ e. absurd (is.only e);
      same = λ e. absurd (is.only e);
      limits = ap (λ (v : DeskView g.row.K.Denot). v.limits) seen;
      «open» = search rules;
      ahead = on_any made (ap (λ (v : DeskView g.row.K.Denot). v.is_ahead) seen);
    }

pub invariant_of-self : goal.invariant_of-self
invariant_of-self g c =
    let no_failure : c.match-matches.self ≡ false → c.make-made.result ≡ Err Keep → ⊥ = λ shut e.
    (let failed : c.match-matches.self ≡ true = search rules in false≢true (sym shut ∙ failed)) in
    let d = c.make-made.ensures in
    record {
      kept = λ shut. kept_after (g.K.Holder.may_hold c.self.inside.keeper) (g.K.Holder.may_hold c.make-made.new.keeper) c.self.inside.inventory c.make-made.new.inventory _ c.make-made.result
          (c.self.invariant.kept c.if-self.false) d.ok d.keeps.ok d.err d.keeps.none d.only (no_failure shut);
      reached = λ shut. d.keeps.reached (no_failure shut);
      behind = λ shut. c.self.invariant.behind c.if-self.false;
      loaded = d.keeps.loaded;
      none_staged = d.staged;
      counted = d.counted;
    }
