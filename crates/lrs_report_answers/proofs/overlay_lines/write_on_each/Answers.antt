use Rattle.std.proofs.Common.{ap}
use Rattle.std.specs.List.{flat_map}
use Rattle.lrs_report_lists.proofs.Writing.{leads_end, leads_next}
use Rattle.lrs_report_answers.specs.Overlay.{overlay_of}
use Rattle.lrs_report_answers.proofs.SideBySide.{among_next}
use Rattle.lrs_report_answers.proofs.overlay_lines.write_on_each.Goals as goal

pub write_on_route-requires : goal.write_on_route-requires
write_on_route-requires g c = record { known = (among_next c.in-Some.route_row.now c.next.new.self c.loop-route_row.route_row-iterator c.args.inventory.now.routes c.loop-route_row.invariant.0 c.in-Some.ensures.steps).0 }

pub loop-route_row-preserved : goal.loop-route_row-preserved
loop-route_row-preserved g c =
    let text = overlay_of c.args.inventory.now c.args.wanted.now in (
      (among_next c.in-Some.route_row.now c.next.new.self c.loop-route_row.route_row-iterator c.args.inventory.now.routes c.loop-route_row.invariant.0 c.in-Some.ensures.steps).1,
      leads_next (g.W.Write.contents c.args.writer.now) (g.W.Write.contents c.loop-route_row.writer) (g.W.Write.contents c.write_on_route.new.writer) _ (flat_map text c.next.new.self) (flat_map text c.loop-route_row.route_row-iterator)
          (flat_map text c.args.inventory.now.routes) c.loop-route_row.invariant.1 (ap (flat_map text) c.in-Some.ensures.steps) c.in_ok-write_on_route.ensures,
    )

pub returns : goal.returns
returns g c =
    let text = overlay_of c.args.inventory.now c.args.wanted.now in
    leads_end (g.W.Write.contents c.args.writer.now) (g.W.Write.contents c.loop-route_row.writer) (flat_map text c.loop-route_row.route_row-iterator) (flat_map text c.args.inventory.now.routes) c.loop-route_row.invariant.1 (ap (flat_map text) c.in-None.ensures.steps.0)
