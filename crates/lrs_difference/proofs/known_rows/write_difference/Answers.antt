use Rattle.lrs_image.specs.OpenLists.{image_of}
use Rattle.lrs_report_lists.proofs.Writing.{appends_last}
use Rattle.lrs_difference.specs.Text.{difference_text}
use Rattle.lrs_difference.proofs.KnownRows.{both_texts}
use Rattle.lrs_difference.proofs.known_rows.write_difference.Goals as goal

pub returns : goal.returns
returns g c =
    let a = image_of c.args.before.now in
    let b = image_of c.args.after.now in
    appends_last c.write_held_differences.result (g.W.Write.contents c.args.writer.now) (g.W.Write.contents c.write_listed_differences.new.writer) (g.W.Write.contents c.write_held_differences.new.writer) _ _ (difference_text a b)
    c.in_ok-write_listed_differences.ensures c.write_held_differences.ensures (both_texts a b)
