use Rattle.std.proofs.Common.{append_assoc}
use Rattle.lrs_report.specs.Drawings.Axis.{axis_head}
use Rattle.lrs_report.proofs.Writing.{appends_last}
use Rattle.lrs_report.proofs.diagrams.axis.write_axis_head.Goals as goal

pub returns : goal.returns
returns g c =
    let start = g.W.Write.contents c.args.writer.now in
    let first = g.W.Write.contents c.writeln.new.self in
    appends_last c.write_all.result start first (g.W.Write.contents c.write_all.new.self) _ _ (axis_head c.args.top) c.in_ok-writeln.ensures.bytes c.write_all.ensures.bytes (simp append_assoc)
