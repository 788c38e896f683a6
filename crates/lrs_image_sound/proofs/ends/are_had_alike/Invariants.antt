use Rattle.std.proofs.Common.{ℕ, ◌<◌, ◌++◌}
use Rattle.lrs_image_sound.specs.Pairs.{AreHadAlikeIn}
use Rattle.lrs_image_sound.proofs.ends.are_had_alike.Given as goal

abbrev pub invariant-loop-chunk : goal.invariant-loop-chunk
invariant-loop-chunk l = (k : ℕ) → k < l.chunk → AreHadAlikeIn k (l.first ++ l.more) l.all
