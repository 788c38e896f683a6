use Rattle.lrs_cli_tasks.specs.Lines.{row_text}
use Rattle.lrs_report.proofs.Drawings.Appending.{appends_next}
use Rattle.lrs_cli_tasks.proofs.lines.write_found.Goals as goal

pub loop-row-preserved : goal.loop-row-preserved
loop-row-preserved g c =
    appends_next row_text c.loop-row.row-index c.args.rows.now c.row-item.result _ _ _ c.loop-row-test.true c.row-item.is c.loop-row.invariant c.in_ok-write_row.ensures
