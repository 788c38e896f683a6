use Rattle.std.proofs.Common.{Option, ap, sym, ◌∙◌}
use Rattle.std.specs.FinMap as map
use Rattle.lrs_inventory.specs.declared.plan.ReferentPlace.{ReferentPlace}
use Rattle.lrs_inventory.specs.Changes.{with_referent}
use Rattle.lrs_inventory.specs.Places.{Places}
use Rattle.lrs_inventory.proofs.Standing.{put_in_is}
use Rattle.lrs_inventory.proofs.referents.ReferentIndex.put_in.Goals as goal

pub returns-in_ok-insert-clause-ok : goal.returns-in_ok-insert-clause-ok
returns-in_ok-insert-clause-ok c = λ name.
    let old = c.args.self.now in
    ap (λ (s : Places). map.get s name) c.in_ok-insert.ensures.ok ∙ put_in_is old c.in-Some.referent name ∙ ap (λ (come : Option ReferentPlace). with_referent come (map.get old) name) (sym c.in-Some.is)
