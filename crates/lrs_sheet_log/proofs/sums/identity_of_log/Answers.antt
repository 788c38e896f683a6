use Rattle.std.proofs.Common.{◌∙◌, List, ap, map}
use Rattle.lrs_machine.specs.declared.image.Edit.{Edit}
use Rattle.lrs_image.specs.OpenLists.{image_of}
use Rattle.lrs_sheet_log.specs.Log.{edit_of_row}
use Rattle.lrs_sheet_log.specs.Sums.{identity_of}
use Rattle.lrs_sheet_log.proofs.Summed.{all-done}
use Rattle.lrs_sheet_log.proofs.sums.identity_of_log.Goals as goal

pub returns : goal.returns
returns c = c.identity_of.ensures ∙ ap (λ (es : List Edit). identity_of (map edit_of_row es)) c.deref.ensures.value ∙ ap identity_of (all-done (image_of c.args.kept.now))
