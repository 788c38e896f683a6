use Rattle.lrs_report.specs.Drawings.Bands.{class_text}
use Rattle.lrs_report.proofs.Writing.{appends_more, appends_last}
use Rattle.lrs_report.proofs.diagrams.bands.write_class.Goals as goal

pub returns : goal.returns
returns g c =
    let start = g.W.Write.contents c.args.writer.now in
    let one = g.W.Write.contents c.write_class_head.new.writer in
    let two = g.W.Write.contents c.write_band.new.writer in
    let three = g.W.Write.contents c.write_band-2.new.writer in
    let to_two = appends_more start one two _ _ c.in_ok-write_class_head.ensures c.in_ok-write_band.ensures in
    let to_three = appends_more start two three _ _ to_two c.in_ok-write_band-2.ensures in
    appends_last c.write_all.result start three (g.W.Write.contents c.write_all.new.self) _ _ (class_text c.args.scale c.args.shift c.args.top c.args.bands.now) to_three c.write_all.ensures.bytes (cc)
