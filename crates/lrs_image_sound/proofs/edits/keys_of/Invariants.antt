use Rattle.std.proofs.Common.{◌≡◌, map, take}
use Rattle.lrs_machine.specs.declared.image.Edit.{Edit}
use Rattle.lrs_image_sound.proofs.edits.keys_of.Given as goal

abbrev pub invariant-loop-edit : goal.invariant-loop-edit
invariant-loop-edit l = l.keys.items ≡ map (λ (e : Edit). e.key) (take l.edit-index l.edits)
