use Rattle.lrs_inventory.specs.Changes.{route_on}
use Rattle.lrs_report_answers.proofs.Gathering.{over_more}
use Rattle.lrs_report_answers.proofs.ground_routes.routes_over_parts.Goals as goal

pub loop-part-preserved : goal.loop-part-preserved
loop-part-preserved c =
    over_more (route_on c.args.inventory.now.routes) c.args.parts.now c.loop-part.part-index _ c.loop-part-test.true c.loop-part.routes c.routes_over.new.found c.loop-part.invariant c.routes_over.ensures.kept c.routes_over.ensures.only
    c.in_ok-routes_over.ensures.met
