use Rattle.std.proofs.Common.{ℕ, ◌+◌, List, Err, rules, sym, ap, subst, ◌∙◌}
use Rattle.std.proofs.lemmas.Result.{err_from_is_err_and}
use Rattle.lrs_inventory.specs.Prelude.{Piece, state_of}
use Rattle.lrs_machine.specs.declared.command.Command.TheVariants as verb
use Rattle.lrs_image.proofs.Tables.{few_edits}
use Rattle.lrs_image_laws.proofs.Naming.{found_in}
use Rattle.lrs_image_laws.proofs.Rewriting.{its_course}
use Rattle.lrs_inventory.specs.declared.plan.Plan.{Plan}
use Rattle.lrs_inventory.specs.declared.plan.Stop.{Stop}
use Rattle.lrs_inventory.specs.Plans.{IsPlanOf, Plans}
use Rattle.lrs_verbs.specs.RouteVerbs.Realignments.{check_stretch, new_line, IsOnNewLine}
use Rattle.lrs_verbs.proofs.RouteVerbs.RealignChecks.{refuses_route, refuses_stretch, refuses_line, line_is, end_there}
use Rattle.lrs_verbs.proofs.RouteVerbs.RealignRoute.{realigns}
use Rattle.lrs_inventory.proofs.Stopping.{stopped}
use Rattle.lrs_verbs.proofs.routes.realign.plan_realign.Goals as goal

pub returns-in_err-route_row : goal.returns-in_err-route_row
returns-in_err-route_row c =
    let i = c.args.inventory.now in
    let command = verb.Realign c.args.route c.args.from c.args.to c.args.pieces.now c.args.marks.now in
    let e = err_from_is_err_and c.from_residual.result c.from_residual.ensures.1 in
    let missing = c.in_err-route_row.ensures.missing in
    rw (e.1, e.2) (subst (λ (why : Stop). Plans command i (Err why)) (sym missing.0) (refuses_route c.args.route c.args.from c.args.to c.args.pieces.now c.args.marks.now i _ missing.1))

pub returns-in_err-check_stretch : goal.returns-in_err-check_stretch
returns-in_err-check_stretch c =
    let i = c.args.inventory.now in
    let r = c.in_ok-route_row.route_row.now in
    let command = verb.Realign c.args.route c.args.from c.args.to c.args.pieces.now c.args.marks.now in
    let e = err_from_is_err_and c.from_residual-in_err-check_stretch.result c.from_residual-in_err-check_stretch.ensures.1 in
    rw (e.1, e.2) (stopped command i (check_stretch c.len.result c.args.from c.args.to c.given-pieces.result.now) _ c.in_err-check_stretch.ensures
    (λ d is. refuses_stretch c.args.route c.args.from c.args.to c.args.pieces.now c.args.marks.now i _ r c.in_ok-route_row.ensures.found d
    ((λ j. check_stretch (sym c.len.ensures.len j) c.args.from c.args.to (sym c.given-pieces.ensures j)) ∙ is)))

pub returns-in_err-line : goal.returns-in_err-line
returns-in_err-line c =
    let i = c.args.inventory.now in
    let r = c.in_ok-route_row.route_row.now in
    let command = verb.Realign c.args.route c.args.from c.args.to c.args.pieces.now c.args.marks.now in
    let e = err_from_is_err_and c.from_residual-in_err-line.result c.from_residual-in_err-line.ensures.1 in
    let good = (λ j. check_stretch (sym c.len.ensures.len j) c.args.from c.args.to (sym c.given-pieces.ensures j)) ∙ c.in_ok-check_stretch.ensures in
    rw (e.1, e.2) (stopped command i (new_line (state_of i) r.route.course c.args.from c.args.to c.given-pieces.result.now c.args.marks.now) _ c.in_err-line.ensures
    (λ d is. refuses_line c.args.route c.args.from c.args.to c.args.pieces.now c.args.marks.now i _ r c.in_ok-route_row.ensures.found good d
    (ap (λ (ps : List Piece). new_line (state_of i) r.route.course c.args.from c.args.to ps c.args.marks.now) (sym c.given-pieces.ensures) ∙ is)))

pub overflow_add-edit : goal.overflow_add-edit
overflow_add-edit c =
    let few = few_edits c.args.inventory.now c.prove_sound.ensures in
    rw c.edits-edit.ensures (search (rules, few))

pub realign_route-requires-clause-once : goal.realign_route-requires-clause-once
realign_route-requires-clause-once c = (its_course c.args.inventory.now c.prove_sound.ensures c.in_ok-route_row.route_row.now (found_in c.args.route c.in_ok-route_row.route_row.now c.args.inventory.now.routes c.in_ok-route_row.ensures.found).0).1

pub realign_route-requires-clause-ends : goal.realign_route-requires-clause-ends
realign_route-requires-clause-ends c = end_there c.args.inventory.now c.in_ok-route_row.route_row.now c.prove_sound.ensures (found_in c.args.route c.in_ok-route_row.route_row.now c.args.inventory.now.routes c.in_ok-route_row.ensures.found).0

pub realign_route-requires-clause-course : goal.realign_route-requires-clause-course
realign_route-requires-clause-course c =
    (line_is (state_of c.args.inventory.now) c.in_ok-route_row.route_row.now.route.course c.args.from c.args.to c.given-pieces.result.now c.args.marks.now c.in_ok-line.line c.in_ok-line.ensures).course

pub returns : goal.returns
returns c =
    let i = c.args.inventory.now in
    let r = c.in_ok-route_row.route_row.now in
    let command = verb.Realign c.args.route c.args.from c.args.to c.args.pieces.now c.args.marks.now in
    let good = (λ j. check_stretch (sym c.len.ensures.len j) c.args.from c.args.to (sym c.given-pieces.ensures j)) ∙ c.in_ok-check_stretch.ensures in
    let made = ap (λ (ps : List Piece). new_line (state_of i) r.route.course c.args.from c.args.to ps c.args.marks.now) (sym c.given-pieces.ensures) ∙ c.in_ok-line.ensures in
    let is = subst (λ (n : ℕ). IsOnNewLine (n + 1) r c.args.from c.args.to c.in_ok-line.line c.in_ok-realigned.realigned) c.edits-edit.ensures c.in_ok-realigned.ensures in
    subst (λ (p : Plan). IsPlanOf command i p) (sym c.realigned_plan.ensures)
    (realigns c.args.route c.args.from c.args.to c.args.pieces.now c.args.marks.now i r c.in_ok-line.line c.in_ok-realigned.realigned c.prove_sound.ensures c.in_ok-route_row.ensures.found good made is)
