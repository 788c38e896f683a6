use Rattle.std.proofs.Common.{Option, ap, sym, ◌∙◌}
use Rattle.std.specs.FinMap as map
use Rattle.lrs_inventory.specs.declared.plan.ReferentPlace.{ReferentPlace}
use Rattle.lrs_inventory.specs.Changes.{without_referent}
use Rattle.lrs_inventory.specs.Places.{Places}
use Rattle.lrs_inventory.proofs.Standing.{taken_out_is}
use Rattle.lrs_inventory.proofs.referents.ReferentIndex.take_out.Goals as goal

pub returns-in-Some : goal.returns-in-Some
returns-in-Some c = λ name.
    let old = c.args.self.now in
    ap (λ (s : Places). map.get s name) c.remove.ensures ∙ taken_out_is old c.in-Some.referent name ∙ ap (λ (come : Option ReferentPlace). without_referent come (map.get old) name) (sym c.in-Some.is)
