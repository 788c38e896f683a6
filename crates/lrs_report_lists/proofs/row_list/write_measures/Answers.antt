use Rattle.std.proofs.Common.{append_assoc}
use Rattle.lrs_report_lists.specs.Parts.{measures_part}
use Rattle.lrs_report_lists.proofs.Writing.{appends_last, appends_more}
use Rattle.lrs_report_lists.proofs.row_list.write_measures.Goals as goal

pub returns : goal.returns
returns g c =
    let start = g.W.Write.contents c.args.writer.now in
    let from = g.W.Write.contents c.write_measure.new.writer in
    let comma = g.W.Write.contents c.write_all.new.self in
    let one = appends_more start from comma _ _ c.in_ok-write_measure.ensures c.in_ok-write_all.ensures.bytes in
    appends_last c.write_measure-2.result start comma (g.W.Write.contents c.write_measure-2.new.writer) _ _ (measures_part c.args.exact c.args.route.now c.args.row.now) one c.write_measure-2.ensures (simp append_assoc)
