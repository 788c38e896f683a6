use Rattle.lrs_report.proofs.Drawings.Appending.{appends_next}
use Rattle.lrs_sheet_questions.specs.Lines.{row_line}
use Rattle.lrs_sheet_questions.proofs.lines.write_rows.Goals as goal

pub loop-row-preserved : goal.loop-row-preserved
loop-row-preserved g c =
    appends_next (row_line c.args.key) c.loop-row.row-index c.args.rows.now c.row-item.result _ _ _ c.loop-row-test.true c.row-item.is c.loop-row.invariant c.in_ok-write_row.ensures
