use Rattle.lrs_image.specs.OpenLists.{image_of}
use Rattle.lrs_report_lists.proofs.Writing.{appends_last, appends_more}
use Rattle.lrs_difference.specs.Text.{group_text, groups_text, listed_groups}
use Rattle.lrs_difference.proofs.Listed as listed
use Rattle.lrs_difference.proofs.groups.write_listed_differences.Goals as goal

pub returns : goal.returns
returns g c =
    let a = image_of c.args.before.now in
    let b = image_of c.args.after.now in
    let start = g.W.Write.contents c.args.writer.now in
    let links = g.W.Write.contents c.write_links.new.writer in
    let classes = g.W.Write.contents c.write_classes.new.writer in
    let routes = g.W.Write.contents c.write_routes.new.writer in
    let one = appends_more start links classes _ _ c.in_ok-write_links.ensures c.in_ok-write_classes.ensures in
    let two = appends_more start classes routes _ _ one c.in_ok-write_routes.ensures in
    let referents = g.W.Write.contents c.write_referents.new.writer in
    let three = appends_more start routes referents _ _ two c.in_ok-write_referents.ensures in
    appends_last c.write_assets.result start referents (g.W.Write.contents c.write_assets.new.writer) _ _ (groups_text listed_groups a b) three c.write_assets.ensures
    (listed.listed_groups (group_text 0 a b) (group_text 1 a b) (group_text 2 a b) (group_text 3 a b) (group_text 4 a b))
