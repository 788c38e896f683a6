use Rattle.std.proofs.Common.{◌≡◌, List, [], sym, subst, rules}
use Rattle.lrs_machine.specs.declared.image.RouteRow.{RouteRow}
use Rattle.lrs_machine.specs.Image.{state_of}
use Rattle.lrs_report_answers.specs.declared.combinations.Combination.{Combination}
use Rattle.lrs_report_answers.specs.CombinationParts.{CountRoutes}
use Rattle.lrs_report_answers.proofs.Combined.Routes.{routes_first, routes_next}
use Rattle.lrs_report_answers.proofs.SideBySide.{AreAmong, among_next}
use Rattle.lrs_report_answers.proofs.combinations.entries.all_entries.Goals as goal

pub loop-route_row-init : goal.loop-route_row-init
loop-route_row-init c =
    let s = state_of c.args.inventory.now in
    let routes = c.args.inventory.now.routes in
    let same : routes ≡ c.into_iter-route_row-iterator.result = search rules in
    record {
      among = subst (λ (left : List RouteRow). AreAmong left routes) same (λ x m. m);
      counted = subst (λ (left : List RouteRow). CountRoutes s c.args.classes.now c.new-entries.result.items left routes) same
          (subst (λ (es : List Combination). CountRoutes s c.args.classes.now es routes routes) (sym c.new-entries.ensures.items) (routes_first s c.args.classes.now routes));
    }

pub push_route-requires : goal.push_route-requires
push_route-requires c = record {
  known = (among_next c.in-Some.route_row.now c.next.new.self c.loop-route_row.route_row-iterator c.args.inventory.now.routes c.loop-route_row.invariant.among c.in-Some.ensures.steps).0;
  exclusive = c.requires.exclusive;
}

pub loop-route_row-preserved : goal.loop-route_row-preserved
loop-route_row-preserved c =
    let i = c.args.inventory.now in
    let e = c.in-Some.route_row.now in
    let rest = c.next.new.self in
    let left = c.loop-route_row.route_row-iterator in
    record {
      among = (among_next e rest left i.routes c.loop-route_row.invariant.among c.in-Some.ensures.steps).1;
      counted = routes_next (state_of i) c.args.classes.now e rest left i.routes c.loop-route_row.entries.items c.push_route.new.entries.items c.in-Some.ensures.steps c.loop-route_row.invariant.counted c.in_ok-push_route.ensures;
    }

pub returns : goal.returns
returns c =
    let i = c.args.inventory.now in
    subst (λ (left : List RouteRow). CountRoutes (state_of i) c.args.classes.now c.loop-route_row.entries.items left i.routes) c.in-None.ensures.steps.0 c.loop-route_row.invariant.counted
