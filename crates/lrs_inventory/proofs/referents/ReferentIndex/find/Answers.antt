use Rattle.std.proofs.Common.{ap, sym, ◌∙◌}
use Rattle.std.specs.FinMap as map
use Rattle.lrs_inventory.proofs.NamedEntries.{get_at}
use Rattle.lrs_inventory.proofs.referents.ReferentIndex.find.Goals as goal

pub returns : goal.returns
returns c =
    c.copied.ensures ∙ c.get.ensures.value ∙ sym (get_at c.self.inside.places.entries c.args.name.now) ∙ ap (λ m. map.get m c.args.name.now) c.self.view_is
