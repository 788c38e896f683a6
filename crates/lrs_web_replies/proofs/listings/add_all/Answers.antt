use Rattle.std.proofs.Common.{ap}
use Rattle.std.specs.List.{flat_map}
use Rattle.lrs_web_replies.proofs.Paging.{leads_end, leads_next}
use Rattle.lrs_web_replies.proofs.listings.add_all.Goals as goal

pub loop-route_row-preserved : goal.loop-route_row-preserved
loop-route_row-preserved g c =
    let items = flat_map (λ e. g.T.Listed.items e.route) in
    leads_next c.args.text.now c.loop-route_row.text c.add.new.text _ (items c.next.new.self) (items c.loop-route_row.route_row-iterator) (items c.args.routes.now.rows) c.loop-route_row.invariant
    (ap items c.in-Some.ensures.steps) c.in_ok-add.ensures

pub returns : goal.returns
returns g c =
    let items = flat_map (λ e. g.T.Listed.items e.route) in
    leads_end c.args.text.now c.loop-route_row.text (items c.loop-route_row.route_row-iterator) (items c.args.routes.now.rows) c.loop-route_row.invariant (ap items c.in-None.ensures.steps.0)
