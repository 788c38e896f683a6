use Rattle.std.proofs.Common.{arith, List, length, ap}
use Rattle.std.proofs.lemmas.Grind.{common_steps}
use Rattle.lrs_inventory.specs.Prelude.{Edit, image_of}
use Rattle.lrs_inventory.proofs.Indexing.{still_indexed, known_after}
use Rattle.lrs_inventory.proofs.inventory.Inventory.stage.Goals as goal

pub invariant_of-self : goal.invariant_of-self
invariant_of-self g c = record {
  sound = c.self.invariant.sound;
  indexed = still_indexed (image_of c.self.inside.kept) c.self.inside.indexes c.put_in.new.self c.self.invariant.indexed c.in-Err.ensures.err;
}

pub invariant_of-self-in-Ok-stage_change : goal.invariant_of-self-in-Ok-stage_change
invariant_of-self-in-Ok-stage_change g c =
    known_after (image_of c.self.inside.kept) c.args.self.now _ c.args.plan c.args.edit c.self.inside.indexes c.put_in.new.self c.let_go.new.self _ _
    c.self.invariant c.self.view_is c.requires.can c.requires.tells c.in-Ok-stage_change.ensures.ok
    (ap (λ (es : List Edit). length es) c.as_slice.ensures.value) c.in-Ok.ensures.ok
    c.let_go.ensures.keys c.let_go.ensures.ground c.as_slice-in-Ok-stage_change.ensures c.let_go.ensures.referents

pub returns-in-Err : goal.returns-in-Err
returns-in-Err g c = grind (arith, common_steps)

pub returns-in-Ok-stage_change : goal.returns-in-Ok-stage_change
returns-in-Ok-stage_change g c = grind (arith, common_steps)

pub returns-in-Err-stage_change : goal.returns-in-Err-stage_change
returns-in-Err-stage_change g c = grind (arith, common_steps)
