use Rattle.std.specs.List.{flat_map}
use Rattle.lrs_machine.specs.declared.image.RouteRow.{RouteRow}
use Rattle.lrs_report_lists.specs.Lines.{route_line}
use Rattle.lrs_report_lists.proofs.Writing.{Leads}
use Rattle.lrs_report_lists.proofs.route_list.write_each_route.Given as goal

abbrev pub invariant-loop-route_row : goal.invariant-loop-route_row
invariant-loop-route_row g l = Leads (g.W.Write.contents l.fn.writer) (g.W.Write.contents l.writer) (flat_map (λ (e : RouteRow). route_line e.route) l.route_row-iterator) (flat_map (λ (e : RouteRow). route_line e.route) l.routes.rows)
