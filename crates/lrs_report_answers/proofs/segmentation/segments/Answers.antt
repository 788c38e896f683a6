use Rattle.lrs_image.specs.OpenLists.{image_of}
use Rattle.lrs_image.proofs.Tables.{assets_in_order, classes_in_order}
use Rattle.lrs_report_answers.proofs.Asked.{route_in}
use Rattle.lrs_report_answers.proofs.OfState.{rows_fit, rows_exclusive, segments_found, segments_refused}
use Rattle.lrs_report_answers.proofs.segmentation.segments.Goals as goal

pub sweep_segments-requires-clause-assets_order : goal.sweep_segments-requires-clause-assets_order
sweep_segments-requires-clause-assets_order c = assets_in_order (image_of c.args.kept.now) c.requires.sound

pub sweep_segments-requires-clause-classes_order : goal.sweep_segments-requires-clause-classes_order
sweep_segments-requires-clause-classes_order c = classes_in_order (image_of c.args.kept.now) c.requires.sound

pub sweep_segments-requires-clause-rows : goal.sweep_segments-requires-clause-rows
sweep_segments-requires-clause-rows c =
    let i = image_of c.args.kept.now in
    let r = c.in-Some.row.now in
    rows_fit i r c.requires.sound (route_in i r c.in-Some.ensures.known)

pub sweep_segments-requires-clause-exclusive : goal.sweep_segments-requires-clause-exclusive
sweep_segments-requires-clause-exclusive c =
    let i = image_of c.args.kept.now in
    let r = c.in-Some.row.now in
    rows_exclusive i r c.requires.sound (route_in i r c.in-Some.ensures.known)

pub returns-in-Ok : goal.returns-in-Ok
returns-in-Ok c =
    segments_found (image_of c.args.kept.now) c.args.route.now c.in-Some.row.now c.args.wanted.now c.args.side c.requires.sound c.in-Some.ensures.known c.in-Some.ensures.route
    c.in-Ok.found c.in-Ok.ensures

pub returns-in-Err : goal.returns-in-Err
returns-in-Err c =
    segments_refused (image_of c.args.kept.now) c.args.route.now c.in-Some.row.now c.args.wanted.now c.args.side c.requires.sound c.in-Some.ensures.known c.in-Some.ensures.route
    _ c.in-Err.fault c.asked_fault.result c.asked_fault.ensures c.in-Err.ensures
