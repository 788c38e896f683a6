use Rattle.std.proofs.Common.{take}
use Rattle.std.specs.List.{AllByRecursion}
use Rattle.lrs_store_commit.specs.NewAssets.{HasTwoParts}
use Rattle.lrs_store_commit.proofs.new_assets.have_two_parts.Given as goal

abbrev pub invariant-loop-i : goal.invariant-loop-i
invariant-loop-i l = AllByRecursion HasTwoParts (take l.i l.changes)
