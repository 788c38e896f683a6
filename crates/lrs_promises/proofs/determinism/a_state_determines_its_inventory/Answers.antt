use Rattle.lrs_promises.proofs.OneInventory.{inventories_are_one}
use Rattle.lrs_promises.proofs.determinism.a_state_determines_its_inventory.Goals as goal

pub returns : goal.returns
returns c = inventories_are_one
