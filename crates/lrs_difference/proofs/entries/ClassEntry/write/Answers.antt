use Rattle.lrs_report_lists.proofs.Writing.{appends_last}
use Rattle.lrs_difference.specs.Difference.{class_item}
use Rattle.lrs_difference.specs.Lines.{line_text, sign_text}
use Rattle.lrs_difference.proofs.Words.{sign_first}
use Rattle.lrs_difference.proofs.entries.ClassEntry.write.Goals as goal

pub returns : goal.returns
returns g c =
    let x = class_item (c.args.self.now.name, c.args.self.now.kind) in
    appends_last c.write_class.result (g.W.Write.contents c.args.writer.now) (g.W.Write.contents c.write_sign.new.writer) (g.W.Write.contents c.write_class.new.writer) _ _ (line_text (record { sign = c.args.sign; item = x })) c.in_ok-write_sign.ensures c.write_class.ensures
    (sign_first (sign_text c.args.sign) x)
