use Rattle.lrs_report_lists.proofs.Writing.{appends_next}
use Rattle.lrs_report_answers.specs.Combinations.{combination_line}
use Rattle.lrs_report_answers.proofs.combination_lines.write_lines.Goals as goal

pub loop-row-preserved : goal.loop-row-preserved
loop-row-preserved g c =
    appends_next combination_line c.loop-row.row-index c.args.rows.now c.row-item.result _ _ _ c.loop-row-test.true c.row-item.is c.loop-row.invariant c.in_ok-write_line.ensures
