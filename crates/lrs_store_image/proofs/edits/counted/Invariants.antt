use Rattle.std.proofs.Common.{◌≡◌, length}
use Rattle.std.specs.Vec.Iter.{into_iter_items, into_iter_len}
use Rattle.lrs_store_image.proofs.Counted.{IsCounting}
use Rattle.lrs_store_image.proofs.edits.counted.Given as goal

abbrev pub invariant-loop-numbered : goal.invariant-loop-numbered
invariant-loop-numbered l = IsCounting l.fn.edits.items l.found.items (into_iter_items l.numbered-iterator) × (into_iter_len l.numbered-iterator ≡ length (into_iter_items l.numbered-iterator))
