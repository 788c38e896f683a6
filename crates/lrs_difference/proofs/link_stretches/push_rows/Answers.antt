use Rattle.lrs_report_lists.proofs.Length.Pushed.{pushed_next}
use Rattle.lrs_difference.specs.Held.{held_by_row}
use Rattle.lrs_difference.proofs.link_stretches.push_rows.Goals as goal

pub loop-row-preserved : goal.loop-row-preserved
loop-row-preserved c =
    pushed_next (held_by_row c.args.course.now) c.loop-row.row-index c.args.rows.now c.row-item.result c.args.held.now.items c.loop-row.held.items c.push_row.new.held.items c.loop-row-test.true c.row-item.is c.loop-row.invariant c.in_ok-push_row.ensures
