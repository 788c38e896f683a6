use Rattle.std.proofs.Common.{refl}
use Rattle.lrs_report_lists.proofs.Writing.{appends_last}
use Rattle.lrs_report_answers.specs.Combinations.{combinations_header}
use Rattle.lrs_report_answers.proofs.combination_lines.write_header.Goals as goal

pub returns : goal.returns
returns g c =
    appends_last c.write_all.result (g.W.Write.contents c.args.writer.now) (g.W.Write.contents c.write_names.new.writer) (g.W.Write.contents c.write_all.new.self) _ _ (combinations_header c.args.classes.now)
    c.in_ok-write_names.ensures c.write_all.ensures.bytes refl
