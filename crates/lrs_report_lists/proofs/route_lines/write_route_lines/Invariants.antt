use Rattle.std.proofs.Common.{[], Bor}
use Rattle.std.specs.Prelude.{if◌then◌else◌}
use Rattle.std.specs.List.{flat_map}
use Rattle.std.specs.Option.{option_map}
use Rattle.lrs_measure.specs.Texts.{Name}
use Rattle.lrs_machine.specs.declared.image.RouteRow.{RouteRow}
use Rattle.lrs_report_lists.specs.WantedRows.{is_of_route}
use Rattle.lrs_report_lists.proofs.Writing.{Leads}
use Rattle.lrs_report_lists.proofs.route_lines.write_route_lines.Given as goal

abbrev pub invariant-loop-route_row : goal.invariant-loop-route_row
invariant-loop-route_row g l =
    let text = λ (e : RouteRow). if is_of_route (option_map (λ (n : Bor Name). n.now) l.route) e then g.L.RouteLines.lines l.list e else [] in
    Leads (g.W.Write.contents l.fn.writer) (g.W.Write.contents l.writer) (flat_map text l.route_row-iterator) (flat_map text l.routes.rows)
