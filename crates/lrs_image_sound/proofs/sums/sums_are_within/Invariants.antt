use Rattle.lrs_image_sound.proofs.Summed.{IsSummed}
use Rattle.lrs_image_sound.proofs.sums.sums_are_within.Given as goal

abbrev pub invariant-loop-part : goal.invariant-loop-part
invariant-loop-part l = IsSummed l.sorted l.most l.part-index l.last l.sum
