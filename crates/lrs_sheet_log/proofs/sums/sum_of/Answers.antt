use Rattle.std.proofs.Common.{◌∙◌, ◌+◌, ap}
use Rattle.lrs_machine.specs.declared.image.Edit.{Edit}
use Rattle.lrs_sheet_log.specs.Log.{edit_of_row}
use Rattle.lrs_sheet_log.specs.Sums.{next_sum}
use Rattle.lrs_sheet_log.proofs.Summed.{sum-next}
use Rattle.lrs_sheet_log.proofs.sums.sum_of.Goals as goal

pub loop-place-preserved : goal.loop-place-preserved
loop-place-preserved c =
    let row = c.index-edits-place.result in
    let step = c.next_sum-sum.ensures ∙ ap (λ (r : Edit). next_sum c.loop-place.sum (c.loop-place.place + 1) (edit_of_row r)) c.index-edits-place.is in
    sum-next c.loop-place.place c.args.edits.now row c.loop-place.sum c.next_sum-sum.result c.loop-place-test.true c.loop-place.invariant step
