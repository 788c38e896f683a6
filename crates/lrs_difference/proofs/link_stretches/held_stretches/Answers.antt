use Rattle.std.proofs.Common.{ap}
use Rattle.std.specs.List.{flat_map}
use Rattle.lrs_difference.specs.Held.{held_on}
use Rattle.lrs_difference.proofs.HeldPieces.{more, none_more}
use Rattle.lrs_difference.proofs.link_stretches.held_stretches.Goals as goal

pub loop-row-preserved : goal.loop-row-preserved
loop-row-preserved c =
    more (flat_map held_on c.args.kept.now.routes.rows) c.loop-row.held.items c.push_route.new.held.items (held_on c.in-Some.row.now) (flat_map held_on c.loop-row.row-iterator) (flat_map held_on c.next.new.self) c.loop-row.invariant
    (ap (flat_map held_on) c.in-Some.ensures.steps) c.in_ok-push_route.ensures

pub returns : goal.returns
returns c = none_more (flat_map held_on c.args.kept.now.routes.rows) c.loop-row.held.items (flat_map held_on c.loop-row.row-iterator) c.loop-row.invariant (ap (flat_map held_on) c.in-None.ensures.steps.0)
