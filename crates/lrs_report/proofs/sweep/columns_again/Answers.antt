use Rattle.std.proofs.Common.{◌∙◌}
use Rattle.lrs_report.proofs.Passing.{next_same}
use Rattle.lrs_report.proofs.sweep.columns_again.Goals as goal

pub loop-column-preserved : goal.loop-column-preserved
loop-column-preserved g c =
    c.in_ok-push.ensures.items
    ∙ next_same c.loop-column.column-index c.args.columns.now c.loop-column.same.items c.column-item.result c.again.result c.loop-column-test.true c.loop-column.invariant c.column-item.is c.again.ensures
