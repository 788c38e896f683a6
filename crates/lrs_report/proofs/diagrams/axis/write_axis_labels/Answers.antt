use Rattle.lrs_report.specs.Drawings.Axis.{axis_labels}
use Rattle.lrs_report.proofs.Writing.{appends_more, appends_last}
use Rattle.lrs_report.proofs.diagrams.axis.write_axis_labels.Goals as goal

pub returns : goal.returns
returns g c =
    let start = g.W.Write.contents c.args.writer.now in
    let one = g.W.Write.contents c.write_all.new.self in
    let two = g.W.Write.contents c.write_labels.new.writer in
    let three = g.W.Write.contents c.write_all-2.new.self in
    let to_two = appends_more start one two _ _ c.in_ok-write_all.ensures.bytes c.in_ok-write_labels.ensures in
    let to_three = appends_more start two three _ _ to_two c.in_ok-write_all-2.ensures.bytes in
    appends_last c.write_labels-2.result start three (g.W.Write.contents c.write_labels-2.new.writer) _ _ (axis_labels c.args.diagram.now) to_three c.write_labels-2.ensures (cc)
