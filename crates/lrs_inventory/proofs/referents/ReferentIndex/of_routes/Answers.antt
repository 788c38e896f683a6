use Rattle.std.proofs.Common.{List, subst}
use Rattle.std.proofs.lemmas.List.{take_all}
use Rattle.std.specs.FinMap.{empty}
use Rattle.std.specs.List.{flat_map, filter_map}
use Rattle.lrs_inventory.specs.Prelude.{Referent, RouteRow, referents_on, referent_entry}
use Rattle.lrs_inventory.specs.Places.{HaveCome}
use Rattle.lrs_inventory.proofs.Standing.{come_routes, all_placed}
use Rattle.lrs_inventory.proofs.referents.ReferentIndex.of_routes.Goals as goal

pub loop-route_row-preserved : goal.loop-route_row-preserved
loop-route_row-preserved c =
    let e = c.route_row-item.result in
    come_routes c.args.routes.now c.loop-route_row.route_row-index e empty c.loop-route_row.places c.add_all.new.self c.loop-route_row-test.true c.route_row-item.is c.loop-route_row.invariant
    (subst (λ (rs : List Referent). HaveCome c.loop-route_row.places c.add_all.new.self (filter_map (referent_entry e.route.course) rs)) c.as_slice.ensures c.in_ok-add_all.ensures)

pub returns : goal.returns
returns c =
    let es = c.args.routes.now in
    all_placed es c.loop-route_row.places
    (subst (λ (fs : List RouteRow). HaveCome empty c.loop-route_row.places (flat_map referents_on fs)) (take_all c.loop-route_row.route_row-index es c.loop-route_row-test.false) c.loop-route_row.invariant)
