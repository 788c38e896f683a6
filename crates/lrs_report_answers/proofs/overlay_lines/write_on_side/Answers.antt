use Rattle.std.proofs.Common.{◌≡◌, ◌∙◌, ap, map, filter, subst}
use Rattle.std.specs.Prelude.{List}
use Rattle.std.specs.List.{flat_map}
use Rattle.lrs_measure.specs.Texts.{Name}
use Rattle.lrs_events.specs.RouteSpans.Search.{one_side}
use Rattle.lrs_machine.specs.Image.{state_of}
use Rattle.lrs_machine.specs.Readings.{segments_on}
use Rattle.lrs_machine.specs.Segments.{segment_fault}
use Rattle.lrs_report.specs.Sweep.{run_of}
use Rattle.lrs_report_lists.proofs.Writing.{as_text}
use Rattle.lrs_report_answers.specs.Overlay.{is_segment_wanted, overlay_line, overlay_on}
use Rattle.lrs_report_answers.specs.RouteSegments.{class_list}
use Rattle.lrs_report_answers.proofs.SideBySide.{answered, wanted_lines}
use Rattle.lrs_report_answers.proofs.overlay_lines.write_on_side.Goals as goal

pub returns-in-Ok : goal.returns-in-Ok
returns-in-Ok g c =
    let i = c.args.inventory.now in
    let w = c.args.wanted.now in
    let e = c.args.route_row.now in
    let side = c.args.side in
    let found = c.in-Ok.segments in
    let names = c.as_slice-classes.result.now in
    let by_names : map run_of found ≡ segments_on (state_of i) e.route.course names side =
    answered (segment_fault (class_list (state_of i)) names (one_side side)) (λ fs. map run_of fs ≡ segments_on (state_of i) e.route.course names side) found c.in-Ok.ensures in
    let are : map run_of found ≡ segments_on (state_of i) e.route.course w.classes side = subst (λ (ns : List Name). map run_of found ≡ segments_on (state_of i) e.route.course ns side) c.as_slice-classes.ensures by_names in
    as_text c.write_each.result _ _ _ (overlay_on i w e side) c.write_each.ensures (wanted_lines w e.route side found ∙ ap (λ runs. flat_map (overlay_line e.route side) (filter (is_segment_wanted w) runs)) are)
