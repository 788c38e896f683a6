use Rattle.std.proofs.Common.{◌∙◌, [], ◌∷◌, List, ap, subst, sym, Some}
use Rattle.std.specs.Prelude.{Option}
use Rattle.std.specs.Option.{option_map_or}
use Rattle.lrs_machine.specs.declared.image.RouteRow.{RouteRow}
use Rattle.lrs_machine.specs.Image.{state_of}
use Rattle.lrs_image.specs.Change.{is_named}
use Rattle.lrs_report_answers.specs.declared.combinations.Combination.{Combination}
use Rattle.lrs_report_answers.specs.CombinationParts.{CountRoutes}
use Rattle.lrs_report_answers.proofs.Asked.{found_in}
use Rattle.lrs_report_answers.proofs.Combined.Routes.{route_done, routes_first}
use Rattle.lrs_report_answers.proofs.SideBySide.{route_alone}
use Rattle.lrs_report_answers.proofs.combinations.entries.named_entries.Goals as goal

pub push_route-requires : goal.push_route-requires
push_route-requires c = record { known = found_in (is_named c.args.name.now) c.in-Some.route_row.now c.args.inventory.now.routes (sym c.in-Some.ensures.row); exclusive = c.requires.exclusive }

pub returns-in_ok-push_route-in-Some : goal.returns-in_ok-push_route-in-Some
returns-in_ok-push_route-in-Some c =
    let i = c.args.inventory.now in
    let e = c.in-Some.route_row.now in
    let alone = ap (λ (o : Option RouteRow). option_map_or (λ (f : RouteRow). f ∷ []) o []) c.in-Some.ensures.row ∙ sym (route_alone c.args.name.now i c.prove_sound.ensures) in
    subst (λ (routes : List RouteRow). CountRoutes (state_of i) c.args.classes.now c.push_route.new.entries.items [] routes) alone
    (route_done (state_of i) c.args.classes.now e c.new-entries.result.items c.push_route.new.entries.items c.new-entries.ensures.items c.in_ok-push_route-in-Some.ensures)

pub returns-in-None : goal.returns-in-None
returns-in-None c =
    let i = c.args.inventory.now in
    let alone = ap (λ (o : Option RouteRow). option_map_or (λ (f : RouteRow). f ∷ []) o []) c.in-None.ensures.row ∙ sym (route_alone c.args.name.now i c.prove_sound.ensures) in
    subst (λ (routes : List RouteRow). CountRoutes (state_of i) c.args.classes.now c.new-entries.result.items [] routes) alone
    (subst (λ (es : List Combination). CountRoutes (state_of i) c.args.classes.now es [] []) (sym c.new-entries.ensures.items) (routes_first (state_of i) c.args.classes.now []))
