use Rattle.std.proofs.Common.{◌∷◌, [], arith, length-append, ◌∙◌, sym, subst}
use Rattle.std.proofs.lemmas.Grind.{common_steps}
use Rattle.lrs_image.proofs.Tables.{few_edits}
use Rattle.lrs_machine.specs.Sound.{IsSound}
use Rattle.lrs_image.specs.Change.{apply}
use Rattle.lrs_inventory.specs.Plans.{change_of}
use Rattle.lrs_desk.proofs.group.make.Goals as goal

pub overflow_add-number : goal.overflow_add-number
overflow_add-number g c =
    omega (arith, few_edits (apply (change_of c.args.edit c.args.plan) c.args.inventory.now) c.requires.can.sound, length-append c.args.inventory.now.edits (c.args.edit ∷ []), c.edits-number.ensures)

pub catch_up-requires-clause-behind : goal.catch_up-requires-clause-behind
catch_up-requires-clause-behind g c = record {
  before = c.args.inventory.now;
  change = change_of c.args.edit c.args.plan;
  made = c.kept.ensures.image ∙ c.in_ok-stage.ensures.ok;
  class_is = c.class_of-class.ensures;
  counted = c.reserve.ensures.same c.args.inventory.now c.requires.counted;
  was_sound = c.prove_sound.ensures;
  sound = subst IsSound (sym c.kept.ensures.image) c.kept.ensures.sound;
}

pub returns : goal.returns
returns c = grind (arith, common_steps)
