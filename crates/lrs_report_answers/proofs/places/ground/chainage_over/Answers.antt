use Rattle.std.proofs.Common.{ap, sym, ◌∙◌, Some, ℕ}
use Rattle.lrs_report_answers.proofs.Place.Halves.{middle_answered, middle_cell, middle_natural, middle_on_route, nothing_answered, IsMiddle}
use Rattle.lrs_report_answers.proofs.places.ground.chainage_over.Goals.{In-Ok}
use Rattle.lrs_report_answers.proofs.places.ground.chainage_over.Goals as goal

half : (c : In-Ok) → IsMiddle c.args.route.now c.args.link.number c.args.mm c.in-Ok.place.1
half c =
    middle_answered c.args.route.now c.args.link c.args.mm c.from_ref.result.now c.middle_of.result c.in-Ok.place.0 c.in-Ok.place.1 c.requires.inside c.from_ref.ensures.value c.middle_of.ensures c.in-Ok.ensures.answer

pub cell-requires-clause-from : goal.cell-requires-clause-from
cell-requires-clause-from c = middle_natural c.args.route.now c.args.link.number c.args.mm c.in-Ok.place.1 (half c.before)

pub cell-requires-clause-to : goal.cell-requires-clause-to
cell-requires-clause-to c = middle_on_route c.args.route.now c.args.link.number c.args.mm c.in-Ok.place.1 (half c.before) c.length.result c.length.ensures.length

pub returns-in-Ok : goal.returns-in-Ok
returns-in-Ok c =
    let m = half c.before.before in
    ap (λ (at : ℕ). Some at) (c.cell.ensures ∙ middle_cell c.args.route.now c.args.link.number c.args.mm c.in-Ok.place.1 m c.length.result c.length.ensures.length) ∙ sym m.found

pub returns-in-Err : goal.returns-in-Err
returns-in-Err c =
    nothing_answered c.args.route.now c.args.link c.args.mm c.from_ref.result.now c.middle_of.result c.in-Err.field-0 c.requires.inside c.from_ref.ensures.value c.middle_of.ensures c.in-Err.ensures.answer
