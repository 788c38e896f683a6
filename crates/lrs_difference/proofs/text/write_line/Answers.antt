use Rattle.lrs_report_lists.proofs.Writing.{appends_last}
use Rattle.lrs_difference.specs.Lines.{line_text, sign_text}
use Rattle.lrs_difference.proofs.Words.{sign_first}
use Rattle.lrs_difference.proofs.text.write_line.Goals as goal

pub returns : goal.returns
returns g c =
    let line = c.args.line.now in
    appends_last c.write_item.result (g.W.Write.contents c.args.writer.now) (g.W.Write.contents c.write_sign.new.writer) (g.W.Write.contents c.write_item.new.writer) _ _ (line_text line) c.in_ok-write_sign.ensures c.write_item.ensures
    (sign_first (sign_text line.sign) line.item)
