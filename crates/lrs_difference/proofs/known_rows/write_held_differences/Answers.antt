use Rattle.lrs_image.specs.OpenLists.{image_of}
use Rattle.lrs_report_lists.proofs.Writing.{as_text}
use Rattle.lrs_difference.specs.Text.{group_text}
use Rattle.lrs_difference.proofs.KnownRows.{held_text, rows_in_order}
use Rattle.lrs_difference.proofs.known_rows.write_held_differences.Goals as goal

pub write_rows-requires-clause-left : goal.write_rows-requires-clause-left
write_rows-requires-clause-left g c = rows_in_order (image_of c.args.before.now) (image_of c.args.after.now) c.requires.before _ c.in_ok-left.ensures

pub write_rows-requires-clause-right : goal.write_rows-requires-clause-right
write_rows-requires-clause-right g c = rows_in_order (image_of c.args.after.now) (image_of c.args.before.now) c.requires.after _ c.in_ok-right.ensures

pub returns : goal.returns
returns g c =
    let a = image_of c.args.before.now in
    let b = image_of c.args.after.now in
    as_text c.write_rows.result _ _ _ (group_text 5 a b) c.write_rows.ensures (held_text a b _ _ c.in_ok-left.ensures c.in_ok-right.ensures)
