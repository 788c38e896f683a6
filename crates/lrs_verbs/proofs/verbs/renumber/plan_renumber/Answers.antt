use Rattle.std.proofs.Common.{Err, sym, subst, ◌∙◌}
use Rattle.std.proofs.lemmas.Result.{err_from_is_err_and}
use Rattle.lrs_machine.specs.declared.answer.Cause.TheVariants as cause
use Rattle.lrs_machine.specs.declared.command.Command.TheVariants as verb
use Rattle.lrs_inventory.specs.Prelude.{state_of}
use Rattle.lrs_machine.specs.Register.{get}
use Rattle.lrs_inventory.specs.declared.plan.Plan.{Plan}
use Rattle.lrs_inventory.specs.declared.plan.Stop.{Stop}
use Rattle.lrs_inventory.specs.Plans.{IsPlanOf, Plans}
use Rattle.lrs_inventory.proofs.Known.{same_known}
use Rattle.lrs_inventory.proofs.Stopping.{refused, passed}
use Rattle.lrs_verbs.proofs.Renumbered.{refuses_route, refuses_known, renumbers}
use Rattle.lrs_verbs.proofs.verbs.renumber.plan_renumber.Goals as goal

pub returns-in_err-route_row : goal.returns-in_err-route_row
returns-in_err-route_row c =
    let i = c.args.inventory.now in
    let e = err_from_is_err_and c.from_residual.result c.from_residual.ensures.1 in
    let missing = c.in_err-route_row.ensures.missing in
    rw (e.1, e.2) (subst (λ (why : Stop). Plans (verb.Renumber c.args.route c.args.name) i (Err why)) (sym missing.0) (refuses_route c.args.route c.args.name i _ missing.1))

pub returns-in_err-refuse_if : goal.returns-in_err-refuse_if
returns-in_err-refuse_if c =
    let i = c.args.inventory.now in
    let name = c.args.name in
    let e = err_from_is_err_and c.from_residual-in_err-refuse_if.result c.from_residual-in_err-refuse_if.ensures.1 in
    rw (e.1, e.2) (refused (verb.Renumber c.args.route name) i c.is_some-is_known.result cause.RouteKnown c.refuse_if.result _ c.refuse_if.ensures c.in_err-refuse_if.was
    (λ known. refuses_known c.args.route name i _ c.in_ok-route_row.route_row.now c.in_ok-route_row.ensures.found
    (same_known _ _ c.route.result (get (state_of i).routes name) c.route.ensures.route ∙ sym c.is_some-is_known.ensures ∙ known)))

pub returns : goal.returns
returns c =
    let i = c.args.inventory.now in
    let name = c.args.name in
    let unknown = passed c.is_some-is_known.result cause.RouteKnown c.refuse_if.result _ c.refuse_if.ensures c.in_ok-refuse_if.was in
    let fresh = same_known _ _ c.route.result (get (state_of i).routes name) c.route.ensures.route ∙ sym c.is_some-is_known.ensures ∙ unknown in
    subst (λ (p : Plan). IsPlanOf (verb.Renumber c.args.route name) i p) (sym c.renumbered.ensures)
    (renumbers c.args.route name i c.in_ok-route_row.route_row.now c.prove_sound.ensures c.in_ok-route_row.ensures.found fresh c.in_ok-keys.keys c.in_ok-keys.ensures c.in_ok-passed.passed c.in_ok-passed.ensures.course c.in_ok-passed.ensures.filled)
