-- What a plan makes is sound.
use Rattle.lrs_inventory.specs.Prelude.{Edit, with_difference, same_name}
use Rattle.lrs_image_laws.proofs.Making.{made_is_sound}
use Rattle.lrs_inventory.specs.Plans.{PlansCanBeMade}
use Rattle.lrs_inventory.proofs.Positions.{none_passes}

pub plans_can_be_made : PlansCanBeMade
plans_can_be_made command i p e s plan room none few = record {
  differ = plan.differ;
  sound = made_is_sound command i (with_difference p.difference i) e s plan.makes room (none_passes (λ (d : Edit). same_name d.key e.key) i.edits none) few;
}
