use Rattle.std.proofs.Common.{◌≡◌, take}
use Rattle.lrs_image.proofs.image_lists.copied_edits.Given as goal

abbrev pub invariant-loop-edit : goal.invariant-loop-edit
invariant-loop-edit l = l.copies.items ≡ take l.edit-index l.edits
