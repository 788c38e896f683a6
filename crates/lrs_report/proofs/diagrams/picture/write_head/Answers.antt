use Rattle.std.proofs.Common.{refl}
use Rattle.lrs_report.specs.Drawings.Pictures.{head_text}
use Rattle.lrs_report.proofs.Writing.{appends_more, appends_last}
use Rattle.lrs_report.proofs.diagrams.picture.write_head.Goals as goal

pub returns : goal.returns
returns g c =
    let start = g.W.Write.contents c.args.writer.now in
    let one = g.W.Write.contents c.write_start.new.writer in
    let two = g.W.Write.contents c.write_page.new.writer in
    let three = g.W.Write.contents c.write_heading.new.writer in
    let to_two = appends_more start one two _ _ c.in_ok-write_start.ensures c.in_ok-write_page.ensures in
    let to_three = appends_more start two three _ _ to_two c.in_ok-write_heading.ensures in
    appends_last c.write_bar.result start three (g.W.Write.contents c.write_bar.new.writer) _ _ (head_text c.args.diagram.now c.args.height) to_three c.write_bar.ensures refl
