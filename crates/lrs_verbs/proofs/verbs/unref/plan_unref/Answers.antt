use Rattle.std.proofs.Common.{◌≡◌, Some, None, sym, subst, ◌∙◌}
use Rattle.lrs_inventory.specs.Prelude.{Name}
use Rattle.lrs_machine.specs.declared.command.Command.TheVariants as verb
use Rattle.lrs_inventory.specs.declared.plan.Plan.{Plan}
use Rattle.lrs_inventory.specs.Plans.{IsPlanOf}
use Rattle.lrs_verbs.specs.RouteReferents.{plan_of_referents}
use Rattle.lrs_verbs.proofs.GoneReferent.{of_route, refuses_unknown, makes}
use Rattle.lrs_verbs.proofs.verbs.unref.plan_unref.Goals as goal

pub returns-in_default : goal.returns-in_default
returns-in_default c = refuses_unknown c.args.name c.args.inventory.now _ (sym c.referent.ensures ∙ c.in_default.is)

pub unreachable-requires : goal.unreachable-requires
unreachable-requires c =
    let on = of_route c.args.name (c.in-Some.link, c.in-Some.mm) c.args.inventory.now c.prove_sound.ensures (sym c.referent.ensures ∙ c.in-Some.is) in
    cc (sym c.in_default-route_over.is ∙ c.route_over.ensures ∙ on.over)

some_is : (a b : Name) → Some a ≡ Some b → a ≡ b
some_is a b h = cc

pub returns : goal.returns
returns c =
    let i = c.args.inventory.now in
    let name = c.args.name in
    let stands = sym c.referent.ensures ∙ c.in-Some.is in
    let on = of_route name (c.in-Some.link, c.in-Some.mm) i c.prove_sound.ensures stands in
    let route = some_is c.in-Some-route_over.route on.route_row.route.name (sym c.in-Some-route_over.is ∙ c.route_over.ensures ∙ on.over) in
    subst (λ (p : Plan). IsPlanOf (verb.Unref name) i p)
    (sym (c.plan_of_referents.ensures ∙ (λ j. plan_of_referents (route j) (record { gone = c.in_ok-one_name.ensures j; come = c.new.ensures j }) (record { come = None; gone = c.in_ok-one_name-2.ensures j }))))
    (makes name (c.in-Some.link, c.in-Some.mm) i c.prove_sound.ensures stands)
