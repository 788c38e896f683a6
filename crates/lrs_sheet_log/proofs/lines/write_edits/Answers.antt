use Rattle.lrs_sheet_log.specs.Log.{row_line}
use Rattle.lrs_sheet_log.proofs.Written.{appends-next}
use Rattle.lrs_sheet_log.proofs.lines.write_edits.Goals as goal

pub loop-edit-preserved : goal.loop-edit-preserved
loop-edit-preserved g c =
    appends-next row_line c.loop-edit.edit-index c.args.edits.now c.edit-item.result _ _ _ c.loop-edit-test.true c.edit-item.is c.loop-edit.invariant c.in_ok-write_edit.ensures
