use Rattle.std.proofs.Common.{◌≡◌, map, length, subst, sym}
use Rattle.lrs_measure.specs.Lists.{In}
use Rattle.lrs_events.specs.declared.side.LinkSide.{LinkSide}
use Rattle.lrs_events.specs.declared.side.Side.{Side}
use Rattle.lrs_events.specs.RouteSpans.Search.{one_side}
use Rattle.lrs_machine.specs.declared.image.Image.{Image}
use Rattle.lrs_machine.specs.Image.{state_of}
use Rattle.lrs_machine.specs.Readings.{segments_on}
use Rattle.lrs_machine.specs.Segments.{segment_fault, segments_of}
use Rattle.lrs_machine.specs.Sound.{IsSound}
use Rattle.lrs_image.specs.OpenLists.{image_of}
use Rattle.lrs_image.proofs.Tables.{assets_in_order, classes_in_order}
use Rattle.lrs_report.specs.SideValues.{IsAnswer, holders_along}
use Rattle.lrs_report.specs.Sweep.{run_of}
use Rattle.lrs_report_answers.specs.RouteSegments.{class_list}
use Rattle.lrs_report_answers.proofs.OfState.{rows_fit, rows_exclusive}
use Rattle.lrs_report_answers.proofs.SideBySide.{segments_are}
use Rattle.lrs_report_answers.proofs.overlay.overlay_segments.Goals as goal

pub sweep_segments-requires-clause-assets_order : goal.sweep_segments-requires-clause-assets_order
sweep_segments-requires-clause-assets_order c =
    let k = c.kept-kept in
    assets_in_order (image_of k.result.now) (subst IsSound (sym k.ensures.image) k.ensures.sound)

pub sweep_segments-requires-clause-classes_order : goal.sweep_segments-requires-clause-classes_order
sweep_segments-requires-clause-classes_order c =
    let k = c.kept-kept in
    classes_in_order (image_of k.result.now) (subst IsSound (sym k.ensures.image) k.ensures.sound)

pub sweep_segments-requires-clause-rows : goal.sweep_segments-requires-clause-rows
sweep_segments-requires-clause-rows c =
    let k = c.kept-kept in
    let e = c.args.route_row.now in
    rows_fit (image_of k.result.now) e (subst IsSound (sym k.ensures.image) k.ensures.sound) (subst (λ (i : Image). In e i.routes) (sym k.ensures.image) c.requires.known)

pub sweep_segments-requires-clause-exclusive : goal.sweep_segments-requires-clause-exclusive
sweep_segments-requires-clause-exclusive c =
    let k = c.kept-kept in
    let e = c.args.route_row.now in
    rows_exclusive (image_of k.result.now) e (subst IsSound (sym k.ensures.image) k.ensures.sound) (subst (λ (i : Image). In e i.routes) (sym k.ensures.image) c.requires.known)

pub returns : goal.returns
returns c =
    let k = c.kept-kept in
    let i = image_of k.result.now in
    let e = c.args.route_row.now in
    let wanted = c.args.classes.now in
    let side = c.args.side in
    let result = c.sweep_segments.result in
    let sound = subst IsSound (sym k.ensures.image) k.ensures.sound in
    let known = subst (λ (j : Image). In e j.routes) (sym k.ensures.image) c.requires.known in
    let swept =
    subst
    (λ (s : Side). IsAnswer (segment_fault i.classes wanted s) (λ found. (on : LinkSide) → s ≡ one_side on → map run_of found ≡ segments_of i.assets wanted (holders_along e.spans on (length e.route.course))) result)
    c.one_side.ensures c.sweep_segments.ensures in
    subst
    (λ (j : Image). IsAnswer (segment_fault (class_list (state_of j)) wanted (one_side side)) (λ found. map run_of found ≡ segments_on (state_of j) e.route.course wanted side) result)
    k.ensures.image (segments_are i e sound known wanted side result swept)
