use Rattle.std.proofs.Common.{refl}
use Rattle.lrs_report.specs.Drawings.Axis.{axis_text}
use Rattle.lrs_report.proofs.Writing.{appends_more, appends_last}
use Rattle.lrs_report.proofs.diagrams.axis.write_axis.Goals as goal

pub returns : goal.returns
returns g c =
    let start = g.W.Write.contents c.args.writer.now in
    let one = g.W.Write.contents c.write_axis_head.new.writer in
    let two = g.W.Write.contents c.write_lines.new.writer in
    let three = g.W.Write.contents c.write_axis_labels.new.writer in
    let to_two = appends_more start one two _ _ c.in_ok-write_axis_head.ensures c.in_ok-write_lines.ensures in
    let to_three = appends_more start two three _ _ to_two c.in_ok-write_axis_labels.ensures in
    appends_last c.write_all.result start three (g.W.Write.contents c.write_all.new.self) _ _ (axis_text c.args.diagram.now c.args.top) to_three c.write_all.ensures.bytes refl
