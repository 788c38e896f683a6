use Rattle.std.proofs.Common.{refl}
use Rattle.lrs_report_lists.proofs.Writing.{appends_last}
use Rattle.lrs_report_lists.specs.Length.Lines.{lengths_text}
use Rattle.lrs_report_lists.proofs.length_lists.lines.write_lengths.Goals as goal

pub returns : goal.returns
returns g c =
    appends_last c.write_lines.result (g.W.Write.contents c.args.writer.now) (g.W.Write.contents c.write_all.new.self) (g.W.Write.contents c.write_lines.new.writer) _ _ (lengths_text c.args.rows.now) c.in_ok-write_all.ensures.bytes c.write_lines.ensures refl
