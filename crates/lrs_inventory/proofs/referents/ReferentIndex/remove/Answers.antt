use Rattle.std.proofs.Common.{ap, ◌∙◌}
use Rattle.std.specs.FinMap as map
use Rattle.lrs_inventory.proofs.NamedEntries.{removed}
use Rattle.lrs_inventory.proofs.referents.ReferentIndex.remove.Goals as goal

pub returns : goal.returns
returns c =
    removed c.self.inside.places.entries c.remove.new.self.entries c.args.name.now c.remove.ensures.updates.0
    ∙ ap (λ m. map.remove m c.args.name.now) c.self.view_is
