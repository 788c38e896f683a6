use Rattle.std.proofs.Common.{◌∙◌, List, ap, map, take}
use Rattle.lrs_machine.specs.declared.image.Edit.{Edit}
use Rattle.lrs_image.specs.OpenLists.{image_of}
use Rattle.lrs_sheet_log.specs.Log.{edit_of_row}
use Rattle.lrs_sheet_log.specs.Sums.{sum_of}
use Rattle.lrs_sheet_log.proofs.Summed.{first-done}
use Rattle.lrs_sheet_log.proofs.sums.sum_of_log.Goals as goal

pub returns : goal.returns
returns c =
    let rows = c.first_edits.ensures ∙ ap (λ (es : List Edit). take c.args.count es) c.deref.ensures.value in
    c.sum_of.ensures ∙ ap (λ (es : List Edit). sum_of (map edit_of_row es)) rows ∙ ap sum_of (first-done (image_of c.args.kept.now) c.args.count)
