use Rattle.std.specs.List.{flat_map}
use Rattle.lrs_machine.specs.declared.image.RouteRow.{RouteRow}
use Rattle.lrs_image.specs.OpenLists.{image_of}
use Rattle.lrs_image.proofs.Tables.{routes_in_order}
use Rattle.lrs_report_lists.specs.Lists.{routes_named}
use Rattle.lrs_web_replies.proofs.Paging.{page_of_items}
use Rattle.lrs_web_replies.proofs.listings.named_json.Goals as goal

pub add_named-requires : goal.add_named-requires
add_named-requires g c = record { order = routes_in_order (image_of c.args.kept.now) c.requires.sound }

pub returns : goal.returns
returns g c =
    let routes = routes_named c.args.route (image_of c.args.kept.now) in
    page_of_items c.end.result c.in_ok-text.text c.add_named.new.text c.args.name.now c.args.page (flat_map (λ (e : RouteRow). g.T.Listed.items e.route) routes) c.in_ok-text.ensures c.in_ok-add_named.ensures c.end.ensures
