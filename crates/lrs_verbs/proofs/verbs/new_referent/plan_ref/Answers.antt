use denote.Bor.{Bor}
use Rattle.std.proofs.Common.{◌≡◌, ◌+◌, false, Option, Some, None, Ok, length, refl, sym, ap, subst, ◌∙◌}
use Rattle.std.specs.List.{find}
use Rattle.std.proofs.lemmas.Result.{err_from_is_err_and}
use Rattle.std.specs.Prelude.{is_some}
use Rattle.std.specs.Option.{option_map}
use Rattle.lrs_inventory.specs.Prelude.{Name, Ground, Millimetre, Alignment, alignment_of, Image, RouteRow, state_of, route_entry, is_named}
use Rattle.lrs_machine.specs.declared.answer.Cause.TheVariants as cause
use Rattle.lrs_machine.specs.declared.command.Command.TheVariants as verb
use Rattle.lrs_machine.specs.Register.{get}
use Rattle.lrs_inventory.specs.declared.plan.Plan.{Plan}
use Rattle.lrs_inventory.specs.RouteStretches.{IsRouteIn, located_cell}
use Rattle.lrs_inventory.specs.Plans.{Answers, IsPlanOf}
use Rattle.lrs_verbs.specs.RouteReferents.{plan_of_referents, with_one, standing_at}
use Rattle.lrs_inventory.proofs.Located.{route_in}
use Rattle.lrs_verbs.proofs.NewReferent.{refuses_known, refuses_route, refuses_position, puts, makes}
use Rattle.lrs_inventory.proofs.Stopping.{refused, passed, stopped}
use Rattle.lrs_verbs.proofs.verbs.new_referent.plan_ref.Goals as goal

-- what is told where a route is looked for, and where it is found
abbrev Told : Name → Option (Bor RouteRow) → Option Alignment → Type 0
Told route o p = option_map (λ (row : Bor RouteRow). route_entry row.now) o ≡ option_map (λ a. (route, a)) p

none_there : (route : Name) (o : Option (Bor RouteRow)) (p : Option Alignment) → Told route o p → o ≡ None → p ≡ None
none_there route o None told none = refl
none_there route o (Some a) told none = absurd (cc (told, none))

one_there : (route : Name) (o : Option (Bor RouteRow)) (row : Bor RouteRow) (p : Option Alignment) → Told route o p → o ≡ Some row → (row.now.route.name ≡ route) × (p ≡ Some (alignment_of row.now.route))
one_there route o row None told is = absurd (cc (told, is))
one_there route o row (Some a) told is =
    let e : Some (route_entry row.now) ≡ Some (route, a) = ap (option_map (λ (row : Bor RouteRow). route_entry row.now)) (sym is) ∙ told in
    (ap (λ (x : Name × Alignment). x.0) (value e), ap (λ (x : Name × Alignment). Some x.1) (sym (value e)))
  where
    value : {x y : Name × Alignment} → Some x ≡ Some y → x ≡ y
    value h = cc

pub returns-in_err-refuse_if : goal.returns-in_err-refuse_if
returns-in_err-refuse_if c =
    let i = c.args.inventory.now in
    let name = c.args.name in
    let route = c.args.route in
    let position = c.args.position in
    let e = err_from_is_err_and c.from_residual.result c.from_residual.ensures.1 in
    rw (e.1, e.2) (refused (verb.Ref name route position) i c.is_some-is_known.result cause.RefKnown c.refuse_if.result _ c.refuse_if.ensures c.in_err-refuse_if.was
    (λ known. refuses_known name route position i _ (ap is_some (sym c.referent.ensures) ∙ sym c.is_some-is_known.ensures ∙ known)))

pub returns-in_default : goal.returns-in_default
returns-in_default c =
    let i = c.args.inventory.now in
    let name = c.args.name in
    let route = c.args.route in
    let unknown = passed c.is_some-is_known.result cause.RefKnown c.refuse_if.result _ c.refuse_if.ensures c.in_ok-refuse_if.was in
    let fresh = ap is_some (sym c.referent.ensures) ∙ sym c.is_some-is_known.ensures ∙ unknown in
    refuses_route name route c.args.position i _ fresh (none_there route c.route.result (get (state_of i).routes route) c.route.ensures.route c.in_default.is)

known_route : (i : Image) (route : Name) (row : Bor RouteRow) (o : Option (Bor RouteRow)) → o ≡ Some row → row.now.route.name ≡ route → option_map (λ (r : Bor RouteRow). r.now) o ≡ find (is_named route) i.routes → IsRouteIn i row.now
known_route i route row o is named found = ap (λ n. find (is_named n) i.routes) named ∙ sym found ∙ ap (option_map (λ (r : Bor RouteRow). r.now)) is

pub cell-requires : goal.cell-requires
cell-requires c =
    let i = c.args.inventory.now in
    let route = c.args.route in
    let there = one_there route c.route.result c.in-Some.route_row (get (state_of i).routes route) c.route.ensures.route c.in-Some.is in
    record { known = known_route i route c.in-Some.route_row c.route.result c.in-Some.is there.0 c.route.ensures.row }

pub returns-in_err-at : goal.returns-in_err-at
returns-in_err-at c =
    let i = c.args.inventory.now in
    let name = c.args.name in
    let route = c.args.route in
    let position = c.args.position in
    let r = c.in-Some.route_row.now in
    let unknown = passed c.is_some-is_known.result cause.RefKnown c.refuse_if.result _ c.refuse_if.ensures c.in_ok-refuse_if.was in
    let fresh = ap is_some (sym c.referent.ensures) ∙ sym c.is_some-is_known.ensures ∙ unknown in
    let there = one_there route c.route.result c.in-Some.route_row (get (state_of i).routes route) c.route.ensures.route c.in-Some.is in
    let stands = located_cell (state_of i) (alignment_of r.route) (length r.route.course) position in
    let e = err_from_is_err_and c.from_residual-in_err-at.result c.from_residual-in_err-at.ensures.1 in
    rw (e.1, e.2) (stopped (verb.Ref name route position) i stands _ (subst (Answers stands) c.in_err-at.was c.cell.ensures.answer)
    (λ d is. refuses_position name route position i _ fresh (alignment_of r.route) there.1 d is))

none_of : (o : Option Millimetre) → is_some o ≡ false → o ≡ None
none_of None h = refl
none_of (Some x) h = absurd (cc h)

pub returns : goal.returns
returns c =
    let i = c.args.inventory.now in
    let name = c.args.name in
    let route = c.args.route in
    let position = c.args.position in
    let r = c.in-Some.route_row.now in
    let at = c.in_ok-at.at in
    let unknown = passed c.is_some-is_known.result cause.RefKnown c.refuse_if.result _ c.refuse_if.ensures c.in_ok-refuse_if.was in
    let fresh = ap is_some (sym c.referent.ensures) ∙ sym c.is_some-is_known.ensures ∙ unknown in
    let there = one_there route c.route.result c.in-Some.route_row (get (state_of i).routes route) c.route.ensures.route c.in-Some.is in
    let known = known_route i route c.in-Some.route_row c.route.result c.in-Some.is there.0 c.route.ensures.row in
    let stands = located_cell (state_of i) (alignment_of r.route) (length r.route.course) position in
    let found : stands ≡ Ok at = subst (Answers stands) c.in_ok-at.was c.cell.ensures.answer in
    let g = c.ground-place.result in
    let place = ap (option_map (λ (h : Ground). (h.link, h.mm))) c.ground-place.ensures in
    let acts = puts name r.route.name position i (length i.edits + 1) fresh (alignment_of r.route) (ap (λ n. get (state_of i).routes n) there.0 ∙ there.1) at found in
    subst (λ (p : Plan). IsPlanOf (verb.Ref name route position) i p)
    (sym (c.plan_of_referents.ensures ∙ (λ j. plan_of_referents route (record { gone = c.new.ensures j; come = c.in_ok-one_referent.ensures j }) (record { come = Some (record { name = name; link = g.link; mm = g.mm }); gone = c.new-2.ensures j }))))
    (subst (λ (n : Name). IsPlanOf (verb.Ref name n position) i (plan_of_referents n (with_one (record { name = name; at = at })) (standing_at name (g.link, g.mm)))) there.0
    (makes name at (g.link, g.mm) i r c.prove_sound.ensures (route_in i r known) (none_of _ fresh) place c.in_ok-at.ensures.within position acts))
