use Rattle.std.proofs.Common.{◌≡◌, ◌∙◌, ap, map, filter, subst}
use Rattle.std.specs.Prelude.{List}
use Rattle.lrs_measure.specs.Runs.{Run}
use Rattle.lrs_measure.specs.Texts.{Name}
use Rattle.lrs_events.specs.RouteSpans.Search.{one_side}
use Rattle.lrs_machine.specs.Image.{state_of}
use Rattle.lrs_machine.specs.Readings.{segments_on}
use Rattle.lrs_machine.specs.Segments.{Values, segment_fault}
use Rattle.lrs_report.specs.Sweep.{run_of}
use Rattle.lrs_report_answers.proofs.SideBySide.{answered}
use Rattle.lrs_report_answers.specs.Overlay.{is_segment_wanted}
use Rattle.lrs_report_answers.specs.RouteSegments.{class_list}
use Rattle.lrs_web_replies.proofs.Paging.{as_items}
use Rattle.lrs_web_replies.specs.Overlay.{overlay_item, side_items}
use Rattle.lrs_web_replies.proofs.Overlaid.{wanted_items}
use Rattle.lrs_web_replies.proofs.overlay.add_on_side.Goals as goal

pub returns-in-Ok : goal.returns-in-Ok
returns-in-Ok c =
    let i = c.args.inventory.now in
    let w = c.args.wanted.now in
    let e = c.args.route_row.now in
    let side = c.args.side in
    let found = c.in-Ok.segments in
    let names = c.as_slice-classes.result.now in
    let by_names : map run_of found ≡ segments_on (state_of i) e.route.course names side =
    answered (segment_fault (class_list (state_of i)) names (one_side side)) (λ fs. map run_of fs ≡ segments_on (state_of i) e.route.course names side) found c.in-Ok.ensures in
    let are : map run_of found ≡ segments_on (state_of i) e.route.course w.classes side = subst (λ (ns : List Name). map run_of found ≡ segments_on (state_of i) e.route.course ns side) c.as_slice-classes.ensures by_names in
    as_items c.add_wanted_segments.result c.args.text.now c.add_wanted_segments.new.text _ (side_items i w e side) c.add_wanted_segments.ensures
    (wanted_items w e.route side found ∙ ap (λ (runs : List (Run Values)). map (overlay_item e.route side) (filter (is_segment_wanted w) runs)) are)
