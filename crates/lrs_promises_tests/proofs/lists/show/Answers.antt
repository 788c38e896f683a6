use Rattle.std.proofs.Common.{subst, sym}
use Rattle.lrs_machine.specs.declared.image.Image.{Image}
use Rattle.lrs_machine.specs.Sound.{IsSound}
use Rattle.lrs_image.specs.OpenLists.{image_of}
use Rattle.lrs_image.proofs.Tables.{assets_in_order, classes_in_order, routes_in_order}
use Rattle.lrs_report_answers.proofs.Asked.{found_known, route_in}
use Rattle.lrs_report_answers.proofs.OfState.{rows_exclusive, rows_fit}
use Rattle.lrs_promises_tests.proofs.lists.show.Goals as goal

pub find-requires : goal.find-requires
find-requires c =
    let sound = subst (λ (i : Image). IsSound i) (sym c.kept-kept.ensures.image) c.kept-kept.ensures.sound in
    record { order = routes_in_order (image_of c.kept-kept.result.now) sound }

pub segments-requires-clause-assets_order : goal.segments-requires-clause-assets_order
segments-requires-clause-assets_order c =
    assets_in_order (image_of c.kept-kept.result.now) (subst (λ (i : Image). IsSound i) (sym c.kept-kept.ensures.image) c.kept-kept.ensures.sound)

pub segments-requires-clause-classes_order : goal.segments-requires-clause-classes_order
segments-requires-clause-classes_order c =
    classes_in_order (image_of c.kept-kept.result.now) (subst (λ (i : Image). IsSound i) (sym c.kept-kept.ensures.image) c.kept-kept.ensures.sound)

pub segments-requires-clause-rows : goal.segments-requires-clause-rows
segments-requires-clause-rows c =
    let i = image_of c.kept-kept.result.now in
    let sound = subst (λ (i : Image). IsSound i) (sym c.kept-kept.ensures.image) c.kept-kept.ensures.sound in
    let r = c.in-Some.row.now in
    rows_fit i r sound (route_in i r (found_known i c.args.name.now r c.in-Some.ensures))

pub segments-requires-clause-exclusive : goal.segments-requires-clause-exclusive
segments-requires-clause-exclusive c =
    let i = image_of c.kept-kept.result.now in
    let sound = subst (λ (i : Image). IsSound i) (sym c.kept-kept.ensures.image) c.kept-kept.ensures.sound in
    let r = c.in-Some.row.now in
    rows_exclusive i r sound (route_in i r (found_known i c.args.name.now r c.in-Some.ensures))
