use Rattle.lrs_cli_tasks.specs.Lines.{total_text}
use Rattle.lrs_report.proofs.Drawings.Appending.{appends_next}
use Rattle.lrs_cli_tasks.proofs.lines.write_totals.Goals as goal

pub loop-total-preserved : goal.loop-total-preserved
loop-total-preserved g c =
    appends_next total_text c.loop-total.total-index c.args.totals.now c.total-item.result _ _ _ c.loop-total-test.true c.total-item.is c.loop-total.invariant c.in_ok-write_total.ensures
