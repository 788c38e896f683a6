use Rattle.std.proofs.Common.{append_assoc}
use Rattle.lrs_image.specs.OpenLists.{image_of}
use Rattle.lrs_report_lists.specs.Lists.{entered_of, gone_of, history_header, history_text}
use Rattle.lrs_report_lists.proofs.Writing.{appends_last, appends_more}
use Rattle.lrs_report_lists.proofs.history.write_history.Goals as goal

pub returns : goal.returns
returns g c =
    let i = image_of c.args.kept.now in
    let start = g.W.Write.contents c.args.writer.now in
    let entered = g.W.Write.contents c.write_entered_of.new.writer in
    let one = appends_more start (g.W.Write.contents c.write_all.new.self) entered history_header _ c.in_ok-write_all.ensures.bytes c.in_ok-write_entered_of.ensures in
    appends_last c.write_gone_of.result start entered (g.W.Write.contents c.write_gone_of.new.writer) _ _ (history_text c.args.asset i) one c.write_gone_of.ensures
    (append_assoc history_header (entered_of c.args.asset i) (gone_of c.args.asset i))
