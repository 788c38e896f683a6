use Rattle.std.proofs.Common.{ap, sym, subst, ◌∙◌}
use Rattle.std.specs.List.{find}
use Rattle.std.specs.Prelude.{◌≤◌}
use Rattle.lrs_measure.specs.Lists.{each_two}
use Rattle.lrs_measure.specs.OrderedLists.{insert_some}
use Rattle.lrs_machine.specs.declared.image.Image.{Image}
use Rattle.lrs_machine.specs.declared.image.RouteRow.{RouteRow}
use Rattle.lrs_machine.specs.Sound.{route_before}
use Rattle.lrs_image.specs.Change.{is_named, without}
use Rattle.lrs_image.specs.OpenLists.{image_of, HasOpened}
use Rattle.lrs_image.proofs.Named.{back_in_place}
use Rattle.lrs_image.proofs.Tables.{routes_in_order}
use Rattle.lrs_image.proofs.image_lists.ImageLists.prepare.Goals as goal

pub open_route-requires-clause-order : goal.open_route-requires-clause-order
open_route-requires-clause-order c =
    ap (λ (i : Image). each_two route_before i.routes) c.make_room.ensures.image ∙ routes_in_order (image_of c.args.self.now) c.requires.sound

pub returns-in_ok-opened-in-Some-clause-image : goal.returns-in_ok-opened-in-Some-clause-image
returns-in_ok-opened-in-Some-clause-image c =
    let name = c.in-Some.change.route in
    let routes = c.make_room.new.self.routes.rows in
    let order = ap (λ (i : Image). each_two route_before i.routes) c.make_room.ensures.image ∙ routes_in_order (image_of c.args.self.now) c.requires.sound in
    let opened = c.in_ok-opened-in-Some.ensures in
    let back = (λ j. insert_some route_before (opened.found j) (opened.others j)) ∙ back_in_place (λ (e : RouteRow). e.route.name) name routes order in
    (λ j. record (image_of c.make_room.new.self) { routes = back j }) ∙ c.make_room.ensures.image

pub returns-in_ok-opened-in-Some-clause-ready : goal.returns-in_ok-opened-in-Some-clause-ready
returns-in_ok-opened-in-Some-clause-ready c =
    let name = c.in-Some.change.route in
    let routes = c.make_room.new.self.routes.rows in
    let order = ap (λ (i : Image). each_two route_before i.routes) c.make_room.ensures.image ∙ routes_in_order (image_of c.args.self.now) c.requires.sound in
    let opened = c.in_ok-opened-in-Some.ensures in
    let back = (λ j. insert_some route_before (opened.found j) (opened.others j)) ∙ back_in_place (λ (e : RouteRow). e.route.name) name routes order in
    let room = c.in_ok-make_room.ensures.room in
    record {
      route = subst (λ changed. HasOpened changed c.in_ok-opened-in-Some.opened c.open_route.new.routes.rows) (sym c.in-Some.is) (record {
        ready = opened.ready;
        found = opened.found ∙ ap (find (is_named name)) (sym back);
        others_are = opened.others ∙ ap (without name) (sym back);
      });
      room = record {
        links = room.links;
        classes = room.classes;
        assets = room.assets;
        routes = subst (λ n. 2 ≤ n) (sym opened.room) room.routes;
        entered = room.entered;
        gone = room.gone;
        edits = room.edits;
      };
    }
