use Rattle.std.proofs.Common.{arith, List, length, Err, ap, sym, subst}
use Rattle.std.proofs.lemmas.Grind.{common_steps}
use Rattle.lrs_image.specs.declared.keeper.CommitFault.{CommitFault}
use Rattle.lrs_image.specs.declared.keeper.CommitFault.TheVariants.{Memory, Store}
use Rattle.lrs_image.specs.ChangeLists.{KeepsOne}
use Rattle.lrs_image.proofs.OneChange.{keeps_none}
use Rattle.lrs_inventory.specs.Prelude.{Edit, Image, image_of}
use Rattle.lrs_inventory.specs.Plans.{change_of}
use Rattle.lrs_inventory.proofs.Indexing.{still_indexed, known_after}
use Rattle.lrs_inventory.proofs.inventory.Inventory.make.Goals as goal

pub invariant_of-self : goal.invariant_of-self
invariant_of-self g c = record {
  sound = c.self.invariant.sound;
  indexed = still_indexed (image_of c.self.inside.kept) c.self.inside.indexes c.put_in.new.self c.self.invariant.indexed c.in-Err.ensures.err;
}

pub invariant_of-self-in-Ok-make_change : goal.invariant_of-self-in-Ok-make_change
invariant_of-self-in-Ok-make_change g c =
    known_after (image_of c.self.inside.kept) c.args.self.now _ c.args.plan c.args.edit c.self.inside.indexes c.put_in.new.self c.let_go.new.self _ _
    c.self.invariant c.self.view_is c.requires.can c.requires.tells c.in-Ok-make_change.ensures.ok
    (ap (λ (es : List Edit). length es) c.as_slice.ensures.value) c.in-Ok.ensures.ok
    c.let_go.ensures.keys c.let_go.ensures.ground c.as_slice-in-Ok-make_change.ensures c.let_go.ensures.referents

pub returns-in-Err-clause-keeps : goal.returns-in-Err-clause-keeps
returns-in-Err-clause-keeps g c =
    let change = change_of c.args.edit c.args.plan in
    subst (λ (fault : CommitFault). KeepsOne g.K.Holder Memory Store change c.args.self.now c.args.keeper.now c.args.keeper.now (Err fault)) (sym c.from.ensures)
    (keeps_none g.K.Holder Memory Store (λ e. absurd (cc e)) change c.args.self.now c.args.keeper.now c.requires.has)

pub returns-in-Ok-make_change-clause-keeps : goal.returns-in-Ok-make_change-clause-keeps
returns-in-Ok-make_change-clause-keeps g c =
    let change = change_of c.args.edit c.args.plan in
    subst (λ r. KeepsOne g.K.Holder Memory Store change c.args.self.now c.args.keeper.now c.make_change.new.keeper r) c.in-Ok-make_change.is
    (subst (λ (i : Image). KeepsOne g.K.Holder Memory Store change i c.args.keeper.now c.make_change.new.keeper c.make_change.result) c.self.view_is c.make_change.ensures.keeps)

pub returns-in-Err-make_change-clause-keeps : goal.returns-in-Err-make_change-clause-keeps
returns-in-Err-make_change-clause-keeps g c =
    let change = change_of c.args.edit c.args.plan in
    subst (λ r. KeepsOne g.K.Holder Memory Store change c.args.self.now c.args.keeper.now c.make_change.new.keeper r) c.in-Err-make_change.is
    (subst (λ (i : Image). KeepsOne g.K.Holder Memory Store change i c.args.keeper.now c.make_change.new.keeper c.make_change.result) c.self.view_is c.make_change.ensures.keeps)

pub returns-in-Err-clause-ok : goal.returns-in-Err-clause-ok
returns-in-Err-clause-ok g c = grind (arith, common_steps)

pub returns-in-Err-clause-err : goal.returns-in-Err-clause-err
returns-in-Err-clause-err g c = grind (arith, common_steps)

pub returns-in-Err-clause-staged : goal.returns-in-Err-clause-staged
returns-in-Err-clause-staged g c = grind (arith, common_steps)

pub returns-in-Ok-make_change-clause-ok : goal.returns-in-Ok-make_change-clause-ok
returns-in-Ok-make_change-clause-ok g c = grind (arith, common_steps)

pub returns-in-Ok-make_change-clause-err : goal.returns-in-Ok-make_change-clause-err
returns-in-Ok-make_change-clause-err g c = grind (arith, common_steps)

pub returns-in-Ok-make_change-clause-staged : goal.returns-in-Ok-make_change-clause-staged
returns-in-Ok-make_change-clause-staged g c = grind (arith, common_steps)

pub returns-in-Err-make_change-clause-ok : goal.returns-in-Err-make_change-clause-ok
returns-in-Err-make_change-clause-ok g c = grind (arith, common_steps)

pub returns-in-Err-make_change-clause-err : goal.returns-in-Err-make_change-clause-err
returns-in-Err-make_change-clause-err g c = grind (arith, common_steps)

pub returns-in-Err-make_change-clause-staged : goal.returns-in-Err-make_change-clause-staged
returns-in-Err-make_change-clause-staged g c = grind (arith, common_steps)
