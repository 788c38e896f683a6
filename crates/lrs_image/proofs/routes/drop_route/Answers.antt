use Rattle.std.proofs.Common.{ap, ◌∙◌, sym}
use Rattle.lrs_ordered.proofs.Keys.{other_names}
use Rattle.lrs_machine.specs.declared.image.RouteRow.{RouteRow}
use Rattle.lrs_image.specs.Change.{without_some}
use Rattle.lrs_image.proofs.routes.drop_route.Goals as goal

pub returns-in-Some-clause-routes : goal.returns-in-Some-clause-routes
returns-in-Some-clause-routes c =
    c.remove.ensures.rows ∙ other_names (λ (e : RouteRow). e.route.name) c.in-Some.name c.args.routes.now.rows ∙ ap (λ name. without_some name c.args.routes.now.rows) (sym c.in-Some.is)
