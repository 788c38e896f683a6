use Rattle.lrs_report_lists.proofs.Writing.{appends_last}
use Rattle.lrs_machine.specs.Image.{link_entry}
use Rattle.lrs_difference.specs.Difference.{link_item}
use Rattle.lrs_difference.specs.Lines.{line_text, sign_text}
use Rattle.lrs_difference.proofs.Words.{sign_first}
use Rattle.lrs_difference.proofs.entries.LinkEntry.write.Goals as goal

pub returns : goal.returns
returns g c =
    let x = link_item (link_entry c.args.self.now) in
    appends_last c.write_link.result (g.W.Write.contents c.args.writer.now) (g.W.Write.contents c.write_sign.new.writer) (g.W.Write.contents c.write_link.new.writer) _ _ (line_text (record { sign = c.args.sign; item = x })) c.in_ok-write_sign.ensures c.write_link.ensures
    (sign_first (sign_text c.args.sign) x)
