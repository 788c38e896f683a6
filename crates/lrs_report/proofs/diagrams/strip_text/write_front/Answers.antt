use Rattle.std.proofs.Common.{◌++◌, refl}
use Rattle.lrs_report.specs.Drawings.Strips.{title_text, heading_text}
use Rattle.lrs_report.proofs.Writing.{appends_last}
use Rattle.lrs_report.proofs.diagrams.strip_text.write_front.Goals as goal

pub returns : goal.returns
returns g c =
    let title = title_text c.args.name.now c.args.side c.args.len in
    let heading = heading_text c.args.wanted.now in
    appends_last c.write_heading.result (g.W.Write.contents c.args.writer.now) (g.W.Write.contents c.write_title.new.writer) (g.W.Write.contents c.write_heading.new.writer) title heading (title ++ heading) c.in_ok-write_title.ensures c.write_heading.ensures refl
