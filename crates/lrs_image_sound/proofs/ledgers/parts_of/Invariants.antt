use Rattle.std.proofs.Common.{◌≡◌, take}
use Rattle.lrs_machine.specs.Sound.{parts_of}
use Rattle.lrs_image_sound.proofs.ledgers.parts_of.Given as goal

abbrev pub invariant-loop-row : goal.invariant-loop-row
invariant-loop-row l = l.parts.items ≡ parts_of (take l.row-index l.gone)
