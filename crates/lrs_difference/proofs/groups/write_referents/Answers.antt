use Rattle.lrs_image.specs.OpenLists.{image_of}
use Rattle.lrs_report_lists.proofs.Writing.{as_text}
use Rattle.lrs_difference.specs.Text.{group_text}
use Rattle.lrs_difference.proofs.Gathered.{in_order}
use Rattle.lrs_difference.proofs.Listed.{referents_by_key, referents_text}
use Rattle.lrs_difference.proofs.groups.write_referents.Goals as goal

pub write_between-requires-clause-by_key : goal.write_between-requires-clause-by_key
write_between-requires-clause-by_key g c = referents_by_key

pub write_between-requires-clause-left : goal.write_between-requires-clause-left
write_between-requires-clause-left g c = in_order (image_of c.args.before.now) c.requires.before _ c.in_ok-left.ensures

pub write_between-requires-clause-right : goal.write_between-requires-clause-right
write_between-requires-clause-right g c = in_order (image_of c.args.after.now) c.requires.after _ c.in_ok-right.ensures

pub returns : goal.returns
returns g c =
    let a = image_of c.args.before.now in
    let b = image_of c.args.after.now in
    as_text c.write_between.result _ _ _ (group_text 3 a b) c.write_between.ensures
    (referents_text a b _ _ c.in_ok-left.ensures c.in_ok-right.ensures)
