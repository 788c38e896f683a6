use Rattle.std.proofs.Common.{arith, sym, ◌∙◌}
use Rattle.lrs_position.proofs.Entries.{route_found, route_none, none_more}
use Rattle.lrs_position.proofs.link_position.route_over.Goals as goal

pub loop-route-init : goal.loop-route-init
loop-route-init c = λ k d h. absurd (omega arith)

pub returns-in-Some-clause-some : goal.returns-in-Some-clause-some
returns-in-Some-clause-some c =
    let e = sym c.chainage_on.ensures ∙ c.in-Some.is in
    (route_found c.args.routes.now (c.args.link, c.args.mm) _ _ c.route-item.result c.loop-route-test.true c.loop-route.invariant c.route-item.is e, e)

pub loop-route-preserved : goal.loop-route-preserved
loop-route-preserved c = none_more c.args.routes.now (c.args.link, c.args.mm) _ c.route-item.result c.loop-route-test.true c.loop-route.invariant c.route-item.is (sym c.chainage_on.ensures ∙ c.in-None.is)

pub returns-clause-none : goal.returns-clause-none
returns-clause-none c = route_none c.args.routes.now (c.args.link, c.args.mm) _ c.loop-route-test.false c.loop-route.invariant
