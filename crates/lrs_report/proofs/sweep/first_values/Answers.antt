use Rattle.std.proofs.Common.{◌∙◌}
use Rattle.lrs_report.specs.Columns.{first_value}
use Rattle.lrs_report.proofs.Passing.{next_pushed}
use Rattle.lrs_report.proofs.sweep.first_values.Goals as goal

pub loop-column-preserved : goal.loop-column-preserved
loop-column-preserved g c =
    c.in_ok-push.ensures.items
    ∙ next_pushed first_value c.loop-column.column-index c.args.columns.now c.loop-column.values.items c.column-item.result c.value.result c.loop-column-test.true c.loop-column.invariant c.column-item.is c.value.ensures
