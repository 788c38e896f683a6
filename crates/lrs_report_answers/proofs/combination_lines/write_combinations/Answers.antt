use Rattle.std.proofs.Common.{refl}
use Rattle.lrs_report_lists.proofs.Writing.{appends_last}
use Rattle.lrs_report_answers.specs.Combinations.{combinations_text}
use Rattle.lrs_report_answers.proofs.combination_lines.write_combinations.Goals as goal

pub returns : goal.returns
returns g c =
    appends_last c.write_lines.result (g.W.Write.contents c.args.writer.now) (g.W.Write.contents c.write_header.new.writer) (g.W.Write.contents c.write_lines.new.writer) _ _ (combinations_text c.args.classes.now c.args.rows.now)
    c.in_ok-write_header.ensures c.write_lines.ensures refl
