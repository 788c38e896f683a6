use Rattle.lrs_report.specs.Drawings.Pictures.{bar_text}
use Rattle.lrs_report.proofs.Writing.{appends_last}
use Rattle.lrs_report.proofs.diagrams.picture.write_bar.Goals as goal

pub returns : goal.returns
returns g c =
    let start = g.W.Write.contents c.args.writer.now in
    let one = g.W.Write.contents c.write_bar_line.new.writer in
    appends_last c.write_bar_label.result start one (g.W.Write.contents c.write_bar_label.new.writer) _ _ (bar_text c.args.diagram.now) c.in_ok-write_bar_line.ensures c.write_bar_label.ensures (cc)
