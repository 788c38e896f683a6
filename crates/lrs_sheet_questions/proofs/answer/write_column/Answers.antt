use Rattle.std.specs.Prelude.{codes}
use Rattle.lrs_report.proofs.Drawings.Appending.{as_text}
use Rattle.lrs_sheet_questions.proofs.Appending.{ended_text}
use Rattle.lrs_sheet_questions.proofs.answer.write_column.Goals as goal

pub returns : goal.returns
returns g c =
    as_text c.writeln.result (g.W.Write.contents c.args.writer.now) (g.W.Write.contents c.writeln.new.self) _ _ c.writeln.ensures.bytes (ended_text c.args.key.now (codes ",refused,Malformed:") c.args.column.now)
