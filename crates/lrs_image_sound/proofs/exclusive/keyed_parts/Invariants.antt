use Rattle.std.proofs.Common.{take}
use Rattle.lrs_image_sound.specs.Exclusive.{AreKeyed}
use Rattle.lrs_image_sound.proofs.exclusive.keyed_parts.Given as goal

abbrev pub invariant-loop-part : goal.invariant-loop-part
invariant-loop-part l = AreKeyed l.assets l.classes (take l.part-index l.held) l.keyed.items
