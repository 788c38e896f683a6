use Rattle.std.proofs.Common.{◌≡◌, drop}
use Rattle.lrs_store_image.specs.EnteringEdits.{entered_all}
use Rattle.lrs_store_image.proofs.entering_edits.enter_all.Given as goal

abbrev pub invariant-loop-i : goal.invariant-loop-i
invariant-loop-i l = l.assets.items ≡ entered_all (drop l.i l.entered) l.fn.assets.items
