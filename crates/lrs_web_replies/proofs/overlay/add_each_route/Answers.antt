use Rattle.std.proofs.Common.{ap}
use Rattle.std.specs.List.{flat_map}
use Rattle.lrs_report_answers.proofs.SideBySide.{among_next}
use Rattle.lrs_web_replies.proofs.Paging.{leads_end, leads_next}
use Rattle.lrs_web_replies.specs.Overlay.{overlay_items}
use Rattle.lrs_web_replies.proofs.overlay.add_each_route.Goals as goal

pub add_sides-requires : goal.add_sides-requires
add_sides-requires c = record { known = (among_next c.in-Some.route_row.now c.next.new.self c.loop-route_row.route_row-iterator c.args.inventory.now.routes c.loop-route_row.invariant.0 c.in-Some.ensures.steps).0 }

pub loop-route_row-preserved : goal.loop-route_row-preserved
loop-route_row-preserved c =
    let items = flat_map (overlay_items c.args.inventory.now c.args.wanted.now) in (
      (among_next c.in-Some.route_row.now c.next.new.self c.loop-route_row.route_row-iterator c.args.inventory.now.routes c.loop-route_row.invariant.0 c.in-Some.ensures.steps).1,
      leads_next c.args.text.now c.loop-route_row.text c.add_sides.new.text _ (items c.next.new.self) (items c.loop-route_row.route_row-iterator) (items c.args.inventory.now.routes)
          c.loop-route_row.invariant.1 (ap items c.in-Some.ensures.steps) c.in_ok-add_sides.ensures,
    )

pub returns : goal.returns
returns c =
    let items = flat_map (overlay_items c.args.inventory.now c.args.wanted.now) in
    leads_end c.args.text.now c.loop-route_row.text (items c.loop-route_row.route_row-iterator) (items c.args.inventory.now.routes) c.loop-route_row.invariant.1 (ap items c.in-None.ensures.steps.0)
