use Rattle.std.proofs.Common.{ℕ, Err, sym, ap, subst, ◌∙◌}
use Rattle.std.proofs.lemmas.Result.{err_from_is_err_and}
use Rattle.lrs_machine.specs.declared.command.Command.TheVariants as verb
use Rattle.lrs_inventory.specs.declared.plan.Plan.{Plan}
use Rattle.lrs_inventory.specs.declared.plan.Stop.{Stop}
use Rattle.lrs_inventory.specs.NewCourses.{new_marks}
use Rattle.lrs_inventory.specs.Plans.{IsPlanOf, Plans}
use Rattle.lrs_inventory.proofs.Stopping.{stopped}
use Rattle.lrs_verbs.proofs.RouteVerbs.Recalibrated.{refuses_route, refuses_marks, recalibrates}
use Rattle.lrs_verbs.proofs.routes.recalibrate.plan_recalibrate.Goals as goal

pub returns-in_err-route_row : goal.returns-in_err-route_row
returns-in_err-route_row c =
    let i = c.args.inventory.now in
    let command = verb.Recalibrate c.args.route c.args.marks.now in
    let e = err_from_is_err_and c.from_residual.result c.from_residual.ensures.1 in
    let missing = c.in_err-route_row.ensures.missing in
    rw (e.1, e.2) (subst (λ (why : Stop). Plans command i (Err why)) (sym missing.0) (refuses_route c.args.route c.args.marks.now i _ missing.1))

pub returns-in_err-marks : goal.returns-in_err-marks
returns-in_err-marks c =
    let i = c.args.inventory.now in
    let marks = c.args.marks.now in
    let e = err_from_is_err_and c.from_residual-in_err-marks.result c.from_residual-in_err-marks.ensures.1 in
    rw (e.1, e.2) (stopped (verb.Recalibrate c.args.route marks) i (new_marks c.len-len.result marks) _ c.in_err-marks.ensures
    (λ d is. refuses_marks c.args.route marks i _ c.in_ok-route_row.route_row.now c.in_ok-route_row.ensures.found d (ap (λ (n : ℕ). new_marks n marks) (sym c.len-len.ensures.len) ∙ is)))

pub returns : goal.returns
returns c =
    let i = c.args.inventory.now in
    let marks = c.args.marks.now in
    subst (λ (p : Plan). IsPlanOf (verb.Recalibrate c.args.route marks) i p) (sym c.recalibrated.ensures)
    (recalibrates c.args.route marks c.in_ok-marks.marks i c.in_ok-route_row.route_row.now c.prove_sound.ensures c.in_ok-route_row.ensures.found (ap (λ (n : ℕ). new_marks n marks) (sym c.len-len.ensures.len) ∙ c.in_ok-marks.ensures))
