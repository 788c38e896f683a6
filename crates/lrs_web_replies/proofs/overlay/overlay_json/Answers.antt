use Rattle.std.proofs.Common.{codes}
use Rattle.std.specs.List.{flat_map}
use Rattle.lrs_report_lists.specs.Lists.{routes_named}
use Rattle.lrs_web_replies.specs.Overlay.{overlay_items}
use Rattle.lrs_web_replies.proofs.Paging.{page_of_items}
use Rattle.lrs_web_replies.proofs.overlay.overlay_json.Goals as goal

pub returns : goal.returns
returns c =
    let i = c.args.inventory.now in
    let w = c.args.wanted.now in
    page_of_items c.end.result c.in_ok-text.text c.add_asked_routes.new.text (codes "overlay") c.args.page (flat_map (overlay_items i w) (routes_named w.route i)) c.in_ok-text.ensures c.in_ok-add_asked_routes.ensures c.end.ensures
