use Rattle.lrs_web_replies.proofs.Paging.{as_items}
use Rattle.lrs_web_replies.specs.Overlay.{overlay_items}
use Rattle.lrs_web_replies.proofs.Overlaid.{of_side, of_sides}
use Rattle.lrs_web_replies.proofs.overlay.add_sides.Goals as goal

pub returns-in-Some : goal.returns-in-Some
returns-in-Some c =
    let i = c.args.inventory.now in
    let w = c.args.wanted.now in
    let e = c.args.route_row.now in
    as_items c.add_on_side.result c.args.text.now c.add_on_side.new.text _ (overlay_items i w e) c.add_on_side.ensures (of_side i w e c.in-Some.side c.in-Some.is)

pub returns-in-None : goal.returns-in-None
returns-in-None c =
    let i = c.args.inventory.now in
    let w = c.args.wanted.now in
    let e = c.args.route_row.now in
    as_items c.add_both_sides.result c.args.text.now c.add_both_sides.new.text _ (overlay_items i w e) c.add_both_sides.ensures (of_sides i w e c.in-None.is)
