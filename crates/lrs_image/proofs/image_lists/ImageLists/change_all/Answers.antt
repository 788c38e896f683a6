use Rattle.std.proofs.Common.{sym, subst, take, ◌∙◌}
use Rattle.lrs_machine.specs.declared.image.Image.{Image}
use Rattle.lrs_machine.specs.Sound.{IsSound}
use Rattle.lrs_image.specs.declared.change.Change.{Change}
use Rattle.lrs_image.specs.Change.{apply, CanMake}
use Rattle.lrs_image.specs.OpenLists.{image_of}
use Rattle.lrs_image.specs.ChangeLists.{apply_all}
use Rattle.lrs_image.proofs.Together.{apply_next, can_next, sound_first}
use Rattle.lrs_image.proofs.image_lists.ImageLists.change_all.Goals as goal

pub change-requires-clause-can : goal.change-requires-clause-can
change-requires-clause-can c =
    let start = image_of c.args.self.now in
    let done = apply_all (take c.loop-change.change-index c.args.changes.now) start in
    let next = can_next c.args.changes.now c.loop-change.change-index c.change-item.result start c.loop-change-test.true c.change-item.is c.requires.can in
    let copied = subst (λ (change : Change). CanMake change done) (sym c.in_ok-change.ensures) next in
    subst (λ (i : Image). CanMake c.in_ok-change.change i) (sym c.loop-change.invariant.made) copied

pub loop-change-preserved : goal.loop-change-preserved
loop-change-preserved c =
    let start = image_of c.args.self.now in
    let xs = c.args.changes.now in
    let n = c.loop-change.change-index in
    let next = apply_next xs n c.change-item.result start c.loop-change-test.true c.change-item.is in
    let made = c.in_ok-change-2.ensures.ok ∙ (λ j. apply (c.in_ok-change.ensures j) (c.loop-change.invariant.made j)) ∙ sym next in
    record {
      sound = subst (λ (i : Image). IsSound i) (sym made) (sound_first _ xs start c.requires.sound c.requires.can);
      made = made;
    }
