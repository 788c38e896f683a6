use Rattle.lrs_report_lists.proofs.Writing.{appends_last}
use Rattle.lrs_difference.specs.HeldRows.{held_item}
use Rattle.lrs_difference.specs.Lines.{line_text, sign_text}
use Rattle.lrs_difference.proofs.Words.{sign_first}
use Rattle.lrs_difference.proofs.held_rows.HeldRowEntry.write.Goals as goal

pub returns : goal.returns
returns g c =
    let x = held_item c.args.self.now in
    appends_last c.write_held.result (g.W.Write.contents c.args.writer.now) (g.W.Write.contents c.write_sign.new.writer) (g.W.Write.contents c.write_held.new.writer) _ _ (line_text (record { sign = c.args.sign; item = x })) c.in_ok-write_sign.ensures c.write_held.ensures
    (sign_first (sign_text c.args.sign) x)
