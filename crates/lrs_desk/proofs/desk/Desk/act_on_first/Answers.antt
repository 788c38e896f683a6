use Rattle.std.proofs.Common.{ℕ, refl, sym, ap, arith, subst, true, ◌∙◌}
use Rattle.lrs_image.specs.KeeperCalls.{HasRisen}
use Rattle.lrs_image.specs.ChangeLists.{IsChangedBy}
use Rattle.lrs_desk.specs.Desk.{BreaksAmid, MakesBounded, records_of}
use Rattle.lrs_desk.specs.DeskView.{DeskView}
use Rattle.lrs_desk.proofs.Grouping.{breaks_amid, as_before, none_made, held, same_only, still_only, failed_either}
use Rattle.lrs_desk.proofs.desk.Desk.act_on_first.Goals as goal

pub returns-in-Err-clause-keep : goal.returns-in-Err-clause-keep
returns-in-Err-clause-keep g c = λ e.
    let records = records_of c.args.commands.now in
    let d = c.self.inside in
    let mid = c.do_first.new.keeper in
    let staged = g.K.Keeper.staged mid in
    let old : DeskView g.row.K.Denot = record { image = d.inventory; limits = d.limits; must_reopen = d.must_reopen; is_ahead = d.is_ahead; keeper = d.keeper; failures = g.K.Holder.failures d.keeper } in
    let new : DeskView g.row.K.Denot = record { image = c.do_first.new.inventory; limits = d.limits; must_reopen = true; is_ahead = true; keeper = c.commit.new.self; failures = g.K.Holder.failures c.commit.new.self } in
    let holds = g.K.Holder.may_hold in
    subst (λ (v : DeskView g.row.K.Denot). BreaksAmid holds records v new) c.self.view_is
    (breaks_amid holds records old new c.in_ok-given.given.answers.items staged c.in_ok-given.ensures.does (c.self.invariant.kept c.if-self.false)
    (λ x h. as_before (holds d.keeper) (holds mid) (λ y held. (c.do_first.ensures.rest.content y).0 held) staged x (failed_either (holds c.commit.new.self) (holds mid) (IsChangedBy (holds mid) staged) c.commit.result c.in-Err.field-0 c.in-Err.is c.commit.ensures.keeps.memory c.commit.ensures.keeps.store x h))
    (λ same. c.if-edits.false (c.edits.ensures ∙ same ∙ sym c.edits-edits.ensures)) refl refl (subst (λ (n : ℕ). HasRisen n (g.K.Holder.failures c.commit.new.self)) c.do_first.ensures.rest.quiet c.in-Err.ensures.cause))

-- Where no edit was made, nothing is staged, and the image is as it was.
pub invariant_of-self-then-edits : goal.invariant_of-self-then-edits
invariant_of-self-then-edits g c =
    let i = c.self.inside.inventory in
    let j = c.do_first.new.inventory in
    let mid = c.do_first.new.keeper in
    let m = c.in_ok-given.ensures.does.made in
    let none = none_made i j (g.K.Keeper.staged mid) m (sym c.edits.ensures ∙ c.if-edits.true ∙ c.edits-edits.ensures) in
    record {
      kept = λ shut. same_only (g.K.Holder.may_hold mid) i j (g.K.Keeper.staged mid) m none (still_only (g.K.Holder.may_hold c.self.inside.keeper) (g.K.Holder.may_hold mid) (λ x h. (c.do_first.ensures.rest.content x).0 h) i (c.self.invariant.kept shut));
      reached = λ shut clean. c.do_first.ensures.rest.reached (c.self.invariant.reached shut (c.do_first.ensures.rest.clean clean));
      behind = c.self.invariant.behind;
      loaded = c.do_first.ensures.rest.loaded ∙ c.self.invariant.loaded;
      none_staged = none;
      counted = c.do_first.ensures.counted;
    }

pub returns-then-edits-clause-content : goal.returns-then-edits-clause-content
returns-then-edits-clause-content g c =
    let i = c.self.inside.inventory in
    let j = c.do_first.new.inventory in
    let mid = c.do_first.new.keeper in
    let m = c.in_ok-given.ensures.does.made in
    let none = none_made i j (g.K.Keeper.staged mid) m (sym c.edits.ensures ∙ c.if-edits.true ∙ c.edits-edits.ensures) in
    same_only (g.K.Holder.may_hold mid) i j (g.K.Keeper.staged mid) m none (still_only (g.K.Holder.may_hold c.self.inside.keeper) (g.K.Holder.may_hold mid) (λ x h. (c.do_first.ensures.rest.content x).0 h) i (c.self.invariant.kept c.if-self.false))

pub returns-then-edits-clause-found : goal.returns-then-edits-clause-found
returns-then-edits-clause-found g c = λ shut clean.
    let i = c.self.inside.inventory in
    let j = c.do_first.new.inventory in
    let mid = c.do_first.new.keeper in
    let m = c.in_ok-given.ensures.does.made in
    let none = none_made i j (g.K.Keeper.staged mid) m (sym c.edits.ensures ∙ c.if-edits.true ∙ c.edits-edits.ensures) in
    held (g.K.Holder.may_hold mid) j
    (same_only (g.K.Holder.may_hold mid) i j (g.K.Keeper.staged mid) m none (still_only (g.K.Holder.may_hold c.self.inside.keeper) (g.K.Holder.may_hold mid) (λ x h. (c.do_first.ensures.rest.content x).0 h) i (c.self.invariant.kept c.if-self.false)))
    (g.met.K.Keeper.finds mid clean (c.do_first.ensures.rest.reached (c.self.invariant.reached c.if-self.false (c.do_first.ensures.rest.clean clean))))

pub returns-then-edits-clause-bounded : goal.returns-then-edits-clause-bounded
returns-then-edits-clause-bounded g c =
    subst (λ (v : DeskView g.row.K.Denot). MakesBounded v.image c.do_first.new.inventory) c.self.view_is
    (g.K.Keeper.staged c.do_first.new.keeper, c.in_ok-given.ensures.does.made, c.do_first.ensures.bounded)

pub returns-in-Ok-clause-bounded : goal.returns-in-Ok-clause-bounded
returns-in-Ok-clause-bounded g c =
    subst (λ (v : DeskView g.row.K.Denot). MakesBounded v.image c.do_first.new.inventory) c.self.view_is
    (g.K.Keeper.staged c.do_first.new.keeper, c.in_ok-given.ensures.does.made, c.do_first.ensures.bounded)

-- The count of failures is that of the commit alone.
pub returns-in-Ok-clause-counts : goal.returns-in-Ok-clause-counts
returns-in-Ok-clause-counts g c =
    let was = ap (λ (v : DeskView g.row.K.Denot). v.failures) c.self.view_is in
    omega (arith, was, c.do_first.ensures.rest.quiet, c.commit.ensures.keeps.counts)

pub returns-in-Err-clause-counts : goal.returns-in-Err-clause-counts
returns-in-Err-clause-counts g c =
    let was = ap (λ (v : DeskView g.row.K.Denot). v.failures) c.self.view_is in
    omega (arith, was, c.do_first.ensures.rest.quiet, c.commit.ensures.keeps.counts)
