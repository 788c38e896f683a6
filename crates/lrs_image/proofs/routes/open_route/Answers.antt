use Rattle.std.proofs.Common.{Some, ap, sym, subst, ◌∙◌}
use Rattle.lrs_measure.specs.Lists.{each_two}
use Rattle.lrs_measure.specs.OrderedLists.{insert_by, insert_some}
use Rattle.lrs_ordered.proofs.Keys.{finds_name, other_names}
use Rattle.lrs_machine.specs.declared.image.RouteRow.{RouteRow}
use Rattle.lrs_machine.specs.Sound.{route_before}
use Rattle.lrs_image.specs.Change.{CanBecome, without}
use Rattle.lrs_image.proofs.Named.{back_in_place, same_some}
use Rattle.lrs_image.proofs.routes.open_route.Goals as goal

pub returns-in_default-clause-found : goal.returns-in_default-clause-found
returns-in_default-clause-found c = sym c.in_default.is ∙ c.remove.ensures.row ∙ finds_name (λ (e : RouteRow). e.route.name) c.args.change.now.route c.args.routes.now.rows

pub returns-in_default-clause-others : goal.returns-in_default-clause-others
returns-in_default-clause-others c = c.remove.ensures.rows ∙ other_names (λ (e : RouteRow). e.route.name) c.args.change.now.route c.args.routes.now.rows

pub make_room-requires : goal.make_room-requires
make_room-requires c =
    let found = sym c.in-Some.is ∙ c.remove.ensures.row ∙ finds_name (λ (e : RouteRow). e.route.name) c.args.change.now.route c.args.routes.now.rows in
    let becomes = subst (CanBecome c.args.change.now) (same_some c.requires.can.row c.in-Some.route_row (sym c.requires.can.found ∙ sym found)) c.requires.can.becomes in
    subst (CanBecome c.args.change.now) (sym c.open-opened.ensures) becomes

pub insert_ordered-requires-clause-order : goal.insert_ordered-requires-clause-order
insert_ordered-requires-clause-order c =
    let name = c.args.change.now.route in
    let rows = c.args.routes.now.rows in
    let route_row = c.close.ensures ∙ c.make_room.ensures.route_row ∙ c.open-opened.ensures in
    let left = c.remove.ensures.rows ∙ other_names (λ (e : RouteRow). e.route.name) name rows in
    let found = sym c.in-Some.is ∙ c.remove.ensures.row ∙ finds_name (λ (e : RouteRow). e.route.name) name rows in
    ap (each_two route_before) ((λ j. insert_by route_before (route_row j) (left j)) ∙ ap (λ o. insert_some route_before o (without name rows)) found ∙ back_in_place (λ (e : RouteRow). e.route.name) name rows c.requires.order)
    ∙ c.requires.order

pub returns-in-Ok-clause-found : goal.returns-in-Ok-clause-found
returns-in-Ok-clause-found c =
    ap Some (c.make_room.ensures.route_row ∙ c.open-opened.ensures) ∙ sym c.in-Some.is ∙ c.remove.ensures.row ∙ finds_name (λ (e : RouteRow). e.route.name) c.args.change.now.route c.args.routes.now.rows

pub returns-in-Ok-clause-others : goal.returns-in-Ok-clause-others
returns-in-Ok-clause-others c = c.remove.ensures.rows ∙ other_names (λ (e : RouteRow). e.route.name) c.args.change.now.route c.args.routes.now.rows

pub returns-in-Err-clause-err : goal.returns-in-Err-clause-err
returns-in-Err-clause-err c =
    let name = c.args.change.now.route in
    let rows = c.args.routes.now.rows in
    let route_row = c.close.ensures ∙ c.make_room.ensures.route_row ∙ c.open-opened.ensures in
    let left = c.remove.ensures.rows ∙ other_names (λ (e : RouteRow). e.route.name) name rows in
    let found = sym c.in-Some.is ∙ c.remove.ensures.row ∙ finds_name (λ (e : RouteRow). e.route.name) name rows in
    c.insert_ordered.ensures.rows ∙ (λ j. insert_by route_before (route_row j) (left j)) ∙ ap (λ o. insert_some route_before o (without name rows)) found ∙ back_in_place (λ (e : RouteRow). e.route.name) name rows c.requires.order
