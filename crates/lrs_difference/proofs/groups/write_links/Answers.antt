use Rattle.lrs_image.specs.OpenLists.{image_of}
use Rattle.lrs_image.proofs.Tables.{links_in_order}
use Rattle.lrs_report_lists.proofs.Writing.{as_text}
use Rattle.lrs_difference.specs.Text.{group_text}
use Rattle.lrs_difference.proofs.Listed.{links_by_key, links_text}
use Rattle.lrs_difference.proofs.groups.write_links.Goals as goal

pub write_between-requires-clause-by_key : goal.write_between-requires-clause-by_key
write_between-requires-clause-by_key g c = links_by_key

pub write_between-requires-clause-left : goal.write_between-requires-clause-left
write_between-requires-clause-left g c = links_in_order (image_of c.args.before.now) c.requires.before

pub write_between-requires-clause-right : goal.write_between-requires-clause-right
write_between-requires-clause-right g c = links_in_order (image_of c.args.after.now) c.requires.after

pub returns : goal.returns
returns g c =
    let a = image_of c.args.before.now in
    let b = image_of c.args.after.now in
    as_text c.write_between.result _ _ _ (group_text 0 a b) c.write_between.ensures (links_text a b)
