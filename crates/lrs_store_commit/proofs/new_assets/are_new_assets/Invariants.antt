use Rattle.std.proofs.Common.{take}
use Rattle.std.specs.List.{AllByRecursion}
use Rattle.lrs_store_commit.specs.NewAssets.{IsNewAsset}
use Rattle.lrs_store_commit.proofs.new_assets.are_new_assets.Given as goal

abbrev pub invariant-loop-i : goal.invariant-loop-i
invariant-loop-i l = AllByRecursion IsNewAsset (take l.i l.changes)
