use Rattle.lrs_report.specs.Drawings.Pictures.{data_text}
use Rattle.lrs_report.proofs.Writing.{appends_more, appends_last}
use Rattle.lrs_report.proofs.diagrams.picture.write_data.Goals as goal

pub returns : goal.returns
returns g c =
    let start = g.W.Write.contents c.args.writer.now in
    let one = g.W.Write.contents c.write_all.new.self in
    let two = g.W.Write.contents c.write_all-2.new.self in
    let to_two = appends_more start one two _ _ c.in_ok-write_all.ensures.bytes c.in_ok-write_all-2.ensures.bytes in
    appends_last c.write_range.result start two (g.W.Write.contents c.write_range.new.writer) _ _ (data_text c.args.diagram.now) to_two c.write_range.ensures (cc)
