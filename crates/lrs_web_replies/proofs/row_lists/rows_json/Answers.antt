use Rattle.std.proofs.Common.{codes, filter}
use Rattle.lrs_image.specs.OpenLists.{image_of}
use Rattle.std.specs.List.{flat_map}
use Rattle.lrs_image.proofs.Tables.{assets_in_order, routes_in_order}
use Rattle.lrs_report_lists.specs.WantedRows.{is_of_route}
use Rattle.lrs_web_replies.specs.Listings.{rows_of}
use Rattle.lrs_web_replies.proofs.Paging.{page_of_items}
use Rattle.lrs_web_replies.proofs.row_lists.rows_json.Goals as goal

pub add_asked_rows-requires : goal.add_asked_rows-requires
add_asked_rows-requires c = record { assets_order = assets_in_order (image_of c.args.kept.now) c.requires.sound; routes_order = routes_in_order (image_of c.args.kept.now) c.requires.sound }

pub returns : goal.returns
returns c =
    let i = image_of c.args.kept.now in
    let items = flat_map (rows_of c.args.wanted.now i.assets) (filter (is_of_route c.args.wanted.now.route) i.routes) in
    page_of_items c.end.result c.in_ok-text.text c.add_asked_rows.new.text (codes "rows") c.args.page items c.in_ok-text.ensures c.in_ok-add_asked_rows.ensures c.end.ensures
