use Rattle.std.proofs.Common.{[], ap, subst, Bor}
use Rattle.std.specs.Prelude.{List, ℕ, if◌then◌else◌}
use Rattle.std.specs.List.{flat_map}
use Rattle.std.specs.Option.{option_map}
use Rattle.std.specs.Io.KnownBytes.{Appends}
use Rattle.lrs_measure.specs.Texts.{Name}
use Rattle.lrs_machine.specs.declared.image.RouteRow.{RouteRow}
use Rattle.lrs_report_lists.specs.WantedRows.{is_of_route}
use Rattle.lrs_report_lists.proofs.Chosen.{texts_of_chosen}
use Rattle.lrs_report_lists.proofs.Writing.{leads_end, leads_next}
use Rattle.lrs_report_lists.proofs.route_lines.write_route_lines.Goals as goal

pub loop-route_row-preserved : goal.loop-route_row-preserved
loop-route_row-preserved g c =
    let name = option_map (λ (n : Bor Name). n.now) c.args.route in
    let text = λ (e : RouteRow). if is_of_route name e then g.L.RouteLines.lines c.args.list.now e else [] in
    leads_next (g.W.Write.contents c.args.writer.now) (g.W.Write.contents c.loop-route_row.writer) (g.W.Write.contents c.write_if_named.new.writer) _ (flat_map text c.next.new.self) (flat_map text c.loop-route_row.route_row-iterator)
    (flat_map text c.args.routes.now.rows) c.loop-route_row.invariant (ap (flat_map text) c.in-Some.ensures.steps) c.in_ok-write_if_named.ensures

pub returns : goal.returns
returns g c =
    let name = option_map (λ (n : Bor Name). n.now) c.args.route in
    let line = g.L.RouteLines.lines c.args.list.now in
    let text = λ (e : RouteRow). if is_of_route name e then line e else [] in
    let all = leads_end (g.W.Write.contents c.args.writer.now) (g.W.Write.contents c.loop-route_row.writer) (flat_map text c.loop-route_row.route_row-iterator) (flat_map text c.args.routes.now.rows) c.loop-route_row.invariant (ap (flat_map text) c.in-None.ensures.steps.0) in
    subst (λ (t : List ℕ). Appends (g.W.Write.contents c.args.writer.now) (g.W.Write.contents c.loop-route_row.writer) t) (texts_of_chosen (is_of_route name) line c.args.routes.now.rows) all
