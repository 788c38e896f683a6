use Rattle.std.proofs.Common.{◌∙◌, ap}
use Rattle.lrs_machine.specs.Lines.{Text}
use Rattle.lrs_sheet_log.specs.Log.{edit_of_row}
use Rattle.lrs_sheet_log.specs.Sums.{next_sum}
use Rattle.lrs_sheet_log.proofs.Summed.{first-identity}
use Rattle.lrs_sheet_log.proofs.sums.identity_of.Goals as goal

pub returns-in-len1-up : goal.returns-in-len1-up
returns-in-len1-up c =
    let summed = c.next_sum.ensures ∙ ap (λ (t : Text). next_sum t 1 (edit_of_row c.first-item.result)) c.no_sum.ensures in
    first-identity c.args.edits.now c.first-item.result c.next_sum.result c.first_digits.result c.in-len1-up.len_at_least c.first-item.is summed c.first_digits.ensures
