use Rattle.lrs_report.proofs.Drawings.Appending.{appends_next}
use Rattle.lrs_sheet_questions.specs.Lines.{value_field}
use Rattle.lrs_sheet_questions.proofs.lines.write_values.Goals as goal

pub loop-value-preserved : goal.loop-value-preserved
loop-value-preserved g c =
    appends_next (value_field) c.loop-value.value-index c.args.values.now c.value-item.result _ _ _ c.loop-value-test.true c.value-item.is c.loop-value.invariant c.in_ok-write_value.ensures
