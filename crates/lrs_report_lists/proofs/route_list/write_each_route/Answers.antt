use Rattle.std.proofs.Common.{ap}
use Rattle.std.specs.List.{flat_map}
use Rattle.lrs_machine.specs.declared.image.RouteRow.{RouteRow}
use Rattle.lrs_report_lists.specs.Lines.{route_line}
use Rattle.lrs_report_lists.proofs.Writing.{leads_end, leads_next}
use Rattle.lrs_report_lists.proofs.route_list.write_each_route.Goals as goal

pub loop-route_row-preserved : goal.loop-route_row-preserved
loop-route_row-preserved g c =
    leads_next (g.W.Write.contents c.args.writer.now) (g.W.Write.contents c.loop-route_row.writer) (g.W.Write.contents c.write_route.new.writer) _ (flat_map (λ (e : RouteRow). route_line e.route) c.next.new.self) (flat_map (λ (e : RouteRow). route_line e.route) c.loop-route_row.route_row-iterator)
    (flat_map (λ (e : RouteRow). route_line e.route) c.args.routes.now.rows) c.loop-route_row.invariant (ap (flat_map (λ (e : RouteRow). route_line e.route)) c.in-Some.ensures.steps) c.in_ok-write_route.ensures

pub returns : goal.returns
returns g c =
    leads_end (g.W.Write.contents c.args.writer.now) (g.W.Write.contents c.loop-route_row.writer) (flat_map (λ (e : RouteRow). route_line e.route) c.loop-route_row.route_row-iterator) (flat_map (λ (e : RouteRow). route_line e.route) c.args.routes.now.rows) c.loop-route_row.invariant (ap (flat_map (λ (e : RouteRow). route_line e.route)) c.in-None.ensures.steps.0)
