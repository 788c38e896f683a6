use Rattle.std.proofs.Common.{ap, ◌∙◌}
use Rattle.lrs_measure.specs.Lists.{each_two}
use Rattle.lrs_measure.specs.OrderedLists.{insert_some}
use Rattle.lrs_machine.specs.Sound.{route_before}
use Rattle.lrs_image.specs.Change.{apply, without_some}
use Rattle.lrs_image.specs.OpenLists.{image_with}
use Rattle.lrs_image.proofs.Tables.{links_in_order, classes_in_order, assets_in_order, routes_in_order}
use Rattle.lrs_image.proofs.image_lists.ImageLists.finish.Goals as goal

pub insert_some_ordered-requires-clause-order : goal.insert_some_ordered-requires-clause-order
insert_some_ordered-requires-clause-order c = links_in_order (apply c.args.change (image_with c.args.opened c.args.self.now)) c.requires.can.sound

pub insert_some_ordered-requires-2-clause-order : goal.insert_some_ordered-requires-2-clause-order
insert_some_ordered-requires-2-clause-order c = classes_in_order (apply c.args.change (image_with c.args.opened c.args.self.now)) c.requires.can.sound

pub insert_some_ordered-requires-3-clause-order : goal.insert_some_ordered-requires-3-clause-order
insert_some_ordered-requires-3-clause-order c = assets_in_order (apply c.args.change (image_with c.args.opened c.args.self.now)) c.requires.can.sound

pub insert_some_ordered-requires-4-clause-order : goal.insert_some_ordered-requires-4-clause-order
insert_some_ordered-requires-4-clause-order c =
    let d = c.args.change.difference in
    let rows = c.drop_route.ensures.routes ∙ ap (without_some d.dropped) c.put_changed.ensures.routes in
    ap (λ routes. each_two route_before (insert_some route_before d.made routes)) rows ∙ routes_in_order (apply c.args.change (image_with c.args.opened c.args.self.now)) c.requires.can.sound
