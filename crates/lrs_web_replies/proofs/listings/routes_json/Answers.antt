use Rattle.std.proofs.Common.{codes, map}
use Rattle.lrs_image.specs.OpenLists.{image_of}
use Rattle.lrs_web_replies.specs.Listings.{route_length_data}
use Rattle.lrs_web_replies.proofs.Paging.{page_of_items}
use Rattle.lrs_web_replies.proofs.listings.routes_json.Goals as goal

pub returns : goal.returns
returns c =
    page_of_items c.end.result c.in_ok-text.text c.add_each.new.text (codes "routes") c.args.page (map route_length_data (image_of c.args.kept.now).routes) c.in_ok-text.ensures c.in_ok-add_each.ensures c.end.ensures
