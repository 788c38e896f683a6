use Rattle.std.proofs.Common.{ap, refl, subst, ◌++◌}
use Rattle.lrs_report.specs.Drawings.Axis.{axis_lines}
use Rattle.lrs_report.proofs.Writing.{appends_more, appends_last}
use Rattle.lrs_report.proofs.diagrams.axis.write_lines.Goals as goal

pub returns : goal.returns
returns g c =
    let start = g.W.Write.contents c.args.writer.now in
    let one = g.W.Write.contents c.draw_each.new.writer in
    let two = g.W.Write.contents c.draw_each-2.new.writer in
    let three = g.W.Write.contents c.write_ticks.new.writer in
    let to_two = appends_more start one two _ _ c.in_ok-draw_each.ensures c.in_ok-draw_each-2.ensures in
    let to_three = appends_more start two three _ _ to_two c.in_ok-write_ticks.ensures in
    appends_last c.write_links.result start three (g.W.Write.contents c.write_links.new.writer) _ _ (axis_lines c.args.diagram.now) to_three c.write_links.ensures
    (simp (c.as_slice.ensures, c.as_slice-2.ensures, c.as_slice-3.ensures))
