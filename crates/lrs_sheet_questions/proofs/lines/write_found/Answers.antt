use Rattle.std.proofs.Common.{refl}
use Rattle.std.specs.List.{flat_map}
use Rattle.lrs_sheet_questions.specs.Lines.{row_line}
use Rattle.lrs_sheet_questions.proofs.Appending.{appended}
use Rattle.lrs_sheet_questions.proofs.lines.write_found.Goals as goal

pub returns : goal.returns
returns g c =
    appended c.write_rows.result (g.W.Write.contents c.args.writer.now) (g.W.Write.contents c.write_row_count.new.writer) (g.W.Write.contents c.write_rows.new.writer) _ (flat_map (row_line c.args.key)) c.args.rows.now c.args.rows.now
    c.in_ok-write_row_count.ensures c.write_rows.ensures refl
