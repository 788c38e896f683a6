use Rattle.std.proofs.Common.{inl, inr, ⊎_elim}
use Rattle.std.proofs.lemmas.Result.{on_ok_weaker}
use Rattle.lrs_inventory.specs.Prelude.{image_of}
use Rattle.lrs_inventory.proofs.Grounds.{met_by_index, met_by_routes}
use Rattle.lrs_inventory.proofs.inventory.Inventory.routes_over.Goals as goal

pub returns-clause-met : goal.returns-clause-met
returns-clause-met c =
    on_ok_weaker c.routes_over.result
    (λ found route met. found route (met_by_index c.self.inside.indexes.ground (image_of c.self.inside.kept) c.args.self.now c.self.view_is c.self.invariant.indexed.ground c.args.link c.args.from c.args.to route met))
    c.routes_over.ensures.met

pub returns-clause-only : goal.returns-clause-only
returns-clause-only c route m =
    ⊎_elim (λ before. inl before)
    (λ met. inr (met_by_routes c.self.inside.indexes.ground (image_of c.self.inside.kept) c.args.self.now c.self.view_is c.self.invariant.indexed.ground c.args.link c.args.from c.args.to route met))
    (c.routes_over.ensures.only route m)
