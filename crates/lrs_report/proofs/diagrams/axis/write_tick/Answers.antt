use Rattle.lrs_report.specs.Drawings.Axis.{tick_text}
use Rattle.lrs_report.proofs.Writing.{appends_more, appends_last}
use Rattle.lrs_report.proofs.diagrams.axis.write_tick.Goals as goal

pub returns : goal.returns
returns g c =
    let start = g.W.Write.contents c.args.writer.now in
    let one = g.W.Write.contents c.write_tick_line.new.writer in
    let two = g.W.Write.contents c.write_tick_start.new.writer in
    let to_two = appends_more start one two _ _ c.in_ok-write_tick_line.ensures c.in_ok-write_tick_start.ensures in
    appends_last c.write_tick_metres.result start two (g.W.Write.contents c.write_tick_metres.new.writer) _ _ (tick_text c.args.scale c.args.chainage) to_two c.write_tick_metres.ensures (cc)
