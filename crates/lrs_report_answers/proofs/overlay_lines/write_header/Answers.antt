use Rattle.lrs_report_lists.proofs.Writing.{appends_last, appends_more}
use Rattle.lrs_report_answers.specs.Overlay.{overlay_header}
use Rattle.lrs_report_answers.proofs.SideBySide.{header_parts}
use Rattle.lrs_report_answers.proofs.overlay_lines.write_header.Goals as goal

pub returns : goal.returns
returns g c =
    let start = g.W.Write.contents c.args.writer.now in
    let front = g.W.Write.contents c.write_all.new.self in
    let names = g.W.Write.contents c.write_names.new.writer in
    let one = appends_more start front names _ _ c.in_ok-write_all.ensures.bytes c.in_ok-write_names.ensures in
    appends_last c.write_all-2.result start names (g.W.Write.contents c.write_all-2.new.self) _ _ (overlay_header c.args.classes.now) one c.write_all-2.ensures.bytes (header_parts c.args.classes.now)
