use Rattle.std.proofs.Common.{◌≡◌, map, take}
use Rattle.lrs_events.specs.declared.part.Part.{Part}
use Rattle.lrs_image_sound.proofs.origins.numbers_of.Given as goal

abbrev pub invariant-loop-part : goal.invariant-loop-part
invariant-loop-part l = l.numbers.items ≡ map (λ (p : Part). p.asset) (take l.part-index l.entered)
