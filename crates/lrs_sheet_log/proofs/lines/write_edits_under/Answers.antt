use Rattle.lrs_measure.specs.Texts.{same_name}
use Rattle.lrs_sheet_log.proofs.Written.{any-next, appends-next, line_under}
use Rattle.lrs_sheet_log.proofs.lines.write_edits_under.Goals as goal

pub loop-edit-preserved : goal.loop-edit-preserved
loop-edit-preserved g c = record {
  written = appends-next (line_under c.args.key.now) c.loop-edit.edit-index c.args.edits.now c.edit-item.result _ _ _ c.loop-edit-test.true c.edit-item.is c.loop-edit.invariant.written c.in_ok-has.ensures.written;
  found = any-next (λ row. same_name row.key c.args.key.now) c.loop-edit.edit-index c.args.edits.now c.edit-item.result c.loop-edit.found c.in_ok-has.has c.either-found.result c.loop-edit-test.true c.edit-item.is c.loop-edit.invariant.found c.in_ok-has.ensures.has c.either-found.ensures;
}
