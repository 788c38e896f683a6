use Rattle.std.proofs.Common.{◌∙◌}
use Rattle.lrs_inventory.specs.Prelude.{image_of}
use Rattle.lrs_inventory.proofs.Grounds.{first_is_taken}
use Rattle.lrs_inventory.proofs.inventory.Inventory.first_taken.Goals as goal

pub returns : goal.returns
returns c =
    c.first_taken.ensures ∙ first_is_taken c.self.inside.indexes.ground (image_of c.self.inside.kept) c.args.self.now c.args.pieces.now c.self.view_is c.self.invariant.indexed.ground
