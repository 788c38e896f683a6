use Rattle.std.proofs.Common.{ap, ◌∙◌}
use Rattle.std.specs.FinMap as map
use Rattle.lrs_inventory.proofs.NamedEntries.{inserted}
use Rattle.lrs_inventory.proofs.referents.ReferentIndex.insert.Goals as goal

pub returns-clause-ok : goal.returns-clause-ok
returns-clause-ok c =
    inserted c.self.inside.places.entries c.insert.new.self.entries c.args.name c.args.place c.in_ok-insert.ensures.updates.0
    ∙ ap (λ m. map.insert m c.args.name c.args.place) c.self.view_is
