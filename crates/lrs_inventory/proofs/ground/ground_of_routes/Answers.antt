use Rattle.std.proofs.Common.{ap, ◌∙◌}
use Rattle.lrs_inventory.specs.Prelude.{is_run_once}
use Rattle.lrs_position.specs.Index.Ground.{is_shared}
use Rattle.lrs_inventory.proofs.Grounds.{own_once, own_free, next_ground}
use Rattle.lrs_inventory.proofs.ground.ground_of_routes.Goals as goal

pub add_all-requires-clause-once : goal.add_all-requires-clause-once
add_all-requires-clause-once c =
    ap is_run_once c.pieces.ensures.course ∙ own_once c.args.routes.now c.loop-route_row.route_row-index c.route_row-item.result c.loop-route_row-test.true c.route_row-item.is c.requires.once

pub add_all-requires-clause-free : goal.add_all-requires-clause-free
add_all-requires-clause-free c =
    ap (is_shared c.loop-route_row.ground) c.pieces.ensures.course
    ∙ own_free c.args.routes.now c.loop-route_row.route_row-index c.route_row-item.result c.loop-route_row-test.true c.route_row-item.is c.loop-route_row.ground c.loop-route_row.invariant c.requires.once

pub loop-route_row-preserved : goal.loop-route_row-preserved
loop-route_row-preserved c =
    next_ground c.args.routes.now c.loop-route_row.route_row-index c.route_row-item.result c.loop-route_row-test.true c.route_row-item.is c.loop-route_row.ground c.loop-route_row.invariant c.requires.once
    c.add_all.new.self c.pieces.result.now c.pieces.ensures.course c.in_ok-add_all.ensures.ok
