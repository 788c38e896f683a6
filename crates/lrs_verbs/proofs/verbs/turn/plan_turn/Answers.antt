use Rattle.std.proofs.Common.{Err, sym, subst}
use Rattle.std.proofs.lemmas.Result.{err_from_is_err_and}
use Rattle.lrs_machine.specs.declared.command.Command.TheVariants as verb
use Rattle.lrs_inventory.specs.declared.plan.Plan.{Plan}
use Rattle.lrs_inventory.specs.declared.plan.Stop.{Stop}
use Rattle.lrs_inventory.specs.Plans.{IsPlanOf, Plans}
use Rattle.lrs_verbs.proofs.TurnedRoute.{refuses_route, rows_end, turns}
use Rattle.lrs_verbs.proofs.verbs.turn.plan_turn.Goals as goal

pub returns-in_err-route_row : goal.returns-in_err-route_row
returns-in_err-route_row c =
    let i = c.args.inventory.now in
    let e = err_from_is_err_and c.from_residual.result c.from_residual.ensures.1 in
    let missing = c.in_err-route_row.ensures.missing in
    rw (e.1, e.2) (subst (λ (why : Stop). Plans (verb.Turn c.args.route) i (Err why)) (sym missing.0) (refuses_route c.args.route i _ missing.1))

pub turn_route-requires : goal.turn_route-requires
turn_route-requires c = rows_end c.args.inventory.now c.in_ok-route_row.route_row.now c.args.route c.prove_sound.ensures c.in_ok-route_row.ensures.found

pub returns : goal.returns
returns c =
    subst (λ (p : Plan). IsPlanOf (verb.Turn c.args.route) c.args.inventory.now p) (sym c.rerouted.ensures)
    (turns c.args.route c.args.inventory.now c.in_ok-route_row.route_row.now c.in_ok-change.change c.prove_sound.ensures c.in_ok-route_row.ensures.found c.in_ok-change.ensures)
