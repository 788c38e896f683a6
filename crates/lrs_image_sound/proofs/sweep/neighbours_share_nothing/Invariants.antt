use Rattle.std.proofs.Common.{◌≡◌, ℕ, ◌+◌, ◌<◌, true, length, get_or}
use Rattle.lrs_events.specs.declared.part.Part.{Part}
use Rattle.lrs_machine.specs.Sound.{share_nothing}
use Rattle.lrs_image_sound.proofs.sweep.neighbours_share_nothing.Given as goal

abbrev pub invariant-loop-i : goal.invariant-loop-i
invariant-loop-i l = (k : ℕ) (d : Part) → k + 1 < l.i → k + 1 < length l.parts → share_nothing (get_or l.parts k d) (get_or l.parts (k + 1) d) ≡ true
