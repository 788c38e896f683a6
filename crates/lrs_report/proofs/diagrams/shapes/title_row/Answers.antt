use Rattle.std.proofs.Common.{append_assoc}
use Rattle.lrs_report.specs.Drawings.Shapes.{row_title}
use Rattle.lrs_report.proofs.Writing.{appends_more, appends_last}
use Rattle.lrs_report.proofs.diagrams.shapes.title_row.Goals as goal

pub returns : goal.returns
returns g c =
    let start = g.W.Write.contents c.args.writer.now in
    let asset = g.W.Write.contents c.write.new.self in
    let value = g.W.Write.contents c.write_value.new.writer in
    let one = appends_more start asset value _ _ c.in_ok-write.ensures.bytes c.in_ok-write_value.ensures in
    appends_last c.write_all.result start value (g.W.Write.contents c.write_all.new.self) _ _ (row_title c.args.row.now) one c.write_all.ensures.bytes (simp append_assoc)
