use Rattle.lrs_events.specs.declared.side.LinkSide.TheVariants.{Left, Right}
use Rattle.lrs_web_replies.specs.Overlay.{side_items}
use Rattle.lrs_web_replies.proofs.Paging.{added_last}
use Rattle.lrs_web_replies.proofs.overlay.add_both_sides.Goals as goal

pub returns : goal.returns
returns c =
    let items = side_items c.args.inventory.now c.args.wanted.now c.args.route_row.now in
    added_last c.add_on_side-2.result c.args.text.now c.add_on_side.new.text c.add_on_side-2.new.text (items Left) (items Right) c.in_ok-add_on_side.ensures c.add_on_side-2.ensures
