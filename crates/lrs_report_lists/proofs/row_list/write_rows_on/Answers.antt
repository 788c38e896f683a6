use Rattle.lrs_report_lists.specs.LinkRows.{row_text}
use Rattle.lrs_report_lists.proofs.Writing.{appends_next}
use Rattle.lrs_report_lists.proofs.row_list.write_rows_on.Goals as goal

pub loop-row-preserved : goal.loop-row-preserved
loop-row-preserved g c =
    appends_next (row_text c.args.form c.args.assets.now.rows c.args.route.now) c.loop-row.row-index c.args.rows.now c.row-item.result _ _ _ c.loop-row-test.true c.row-item.is c.loop-row.invariant c.in_ok-write_row.ensures
