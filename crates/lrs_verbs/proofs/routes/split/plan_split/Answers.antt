use Rattle.std.proofs.Common.{◌≡◌, Bool, true, false, Err, length, refl, sym, ap, subst, ◌∙◌}
use Rattle.std.proofs.lemmas.Bool.{false≢true}
use Rattle.std.proofs.lemmas.Result.{err_from_is_err_and}
use Rattle.std.specs.Prelude.{not}
use Rattle.lrs_inventory.specs.Prelude.{state_of}
use Rattle.lrs_machine.specs.declared.answer.Cause.TheVariants as cause
use Rattle.lrs_machine.specs.declared.command.Command.TheVariants as verb
use Rattle.lrs_machine.specs.Register.{get}
use Rattle.lrs_inventory.specs.declared.plan.Plan.{Plan}
use Rattle.lrs_inventory.specs.declared.plan.Stop.{Stop}
use Rattle.lrs_inventory.specs.Plans.{IsPlanOf, Plans}
use Rattle.lrs_verbs.specs.RouteVerbs.Splits.{is_inside}
use Rattle.lrs_inventory.proofs.Known.{same_known}
use Rattle.lrs_inventory.proofs.Stopping.{refused, passed}
use Rattle.lrs_verbs.proofs.RouteVerbs.SplitRoute.{inside_is_inner, refuses_route, refuses_known, refuses_mark, splits}
use Rattle.lrs_verbs.proofs.routes.split.plan_split.Goals as goal

not_false : (b : Bool) → not b ≡ false → b ≡ true
not_false true h = refl
not_false false h = absurd (false≢true (sym h))

pub returns-in_err-route_row : goal.returns-in_err-route_row
returns-in_err-route_row c =
    let i = c.args.inventory.now in
    let e = err_from_is_err_and c.from_residual.result c.from_residual.ensures.1 in
    let missing = c.in_err-route_row.ensures.missing in
    rw (e.1, e.2) (subst (λ (why : Stop). Plans (verb.Split c.args.route c.args.at c.args.name) i (Err why)) (sym missing.0) (refuses_route c.args.route c.args.name c.args.at i _ missing.1))

pub returns-in_err-refuse_if : goal.returns-in_err-refuse_if
returns-in_err-refuse_if c =
    let i = c.args.inventory.now in
    let name = c.args.name in
    let e = err_from_is_err_and c.from_residual-in_err-refuse_if.result c.from_residual-in_err-refuse_if.ensures.1 in
    rw (e.1, e.2) (refused (verb.Split c.args.route c.args.at name) i c.is_some-is_known.result cause.RouteKnown c.refuse_if.result _ c.refuse_if.ensures c.in_err-refuse_if.was
    (λ known. refuses_known c.args.route name c.args.at i _ c.in_ok-route_row.route_row.now c.in_ok-route_row.ensures.found
    (same_known _ _ c.route.result (get (state_of i).routes name) c.route.ensures.route ∙ sym c.is_some-is_known.ensures ∙ known)))

pub returns-in_err-refuse_if-2 : goal.returns-in_err-refuse_if-2
returns-in_err-refuse_if-2 c =
    let i = c.args.inventory.now in
    let name = c.args.name in
    let r = c.in_ok-route_row.route_row.now in
    let unknown = passed c.is_some-is_known.result cause.RouteKnown c.refuse_if.result _ c.refuse_if.ensures c.in_ok-refuse_if.was in
    let fresh = same_known _ _ c.route.result (get (state_of i).routes name) c.route.ensures.route ∙ sym c.is_some-is_known.ensures ∙ unknown in
    let inside : c.is_inside-is_inner.result ≡ is_inside (length r.route.course) r.route.marks c.args.at = c.is_inside-is_inner.ensures ∙ (λ j. is_inside (c.len-len.ensures.len j) (c.list.ensures.list j) c.args.at) in
    let e = err_from_is_err_and c.from_residual-in_err-refuse_if-2.result c.from_residual-in_err-refuse_if-2.ensures.1 in
    rw (e.1, e.2) (refused (verb.Split c.args.route c.args.at name) i (not c.is_inside-is_inner.result) cause.NoMark c.refuse_if-2.result _ c.refuse_if-2.ensures c.in_err-refuse_if-2.was
    (λ missing. refuses_mark c.args.route name c.args.at i _ r c.in_ok-route_row.ensures.found fresh (ap not (sym inside) ∙ missing)))

pub cut_route-requires-clause-inner : goal.cut_route-requires-clause-inner
cut_route-requires-clause-inner c =
    let r = c.in_ok-route_row.route_row.now in
    let known = not_false c.is_inside-is_inner.result (passed (not c.is_inside-is_inner.result) cause.NoMark c.refuse_if-2.result _ c.refuse_if-2.ensures c.in_ok-refuse_if-2.was) in
    sym (inside_is_inner r c.args.at) ∙ sym (c.is_inside-is_inner.ensures ∙ (λ j. is_inside (c.len-len.ensures.len j) (c.list.ensures.list j) c.args.at)) ∙ known

pub returns : goal.returns
returns c =
    let i = c.args.inventory.now in
    let name = c.args.name in
    let r = c.in_ok-route_row.route_row.now in
    let unknown = passed c.is_some-is_known.result cause.RouteKnown c.refuse_if.result _ c.refuse_if.ensures c.in_ok-refuse_if.was in
    let fresh = same_known _ _ c.route.result (get (state_of i).routes name) c.route.ensures.route ∙ sym c.is_some-is_known.ensures ∙ unknown in
    let known = not_false c.is_inside-is_inner.result (passed (not c.is_inside-is_inner.result) cause.NoMark c.refuse_if-2.result _ c.refuse_if-2.ensures c.in_ok-refuse_if-2.was) in
    let inside = sym (c.is_inside-is_inner.ensures ∙ (λ j. is_inside (c.len-len.ensures.len j) (c.list.ensures.list j) c.args.at)) ∙ known in
    subst (λ (p : Plan). IsPlanOf (verb.Split c.args.route c.args.at name) i p) (sym c.split_plan.ensures)
    (splits c.args.route name c.args.at i r c.in_ok-halves.halves c.prove_sound.ensures c.in_ok-route_row.ensures.found fresh inside c.in_ok-halves.ensures c.in-Ok.passed c.in-Ok.ensures.course c.in-Ok.ensures.filled)
