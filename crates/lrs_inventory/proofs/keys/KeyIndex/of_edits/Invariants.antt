use Rattle.std.proofs.Common.{take}
use Rattle.lrs_inventory.specs.Keys.{IsIndex}
use Rattle.lrs_inventory.proofs.keys.KeyIndex.of_edits.Given as goal

abbrev pub invariant-loop-i : goal.invariant-loop-i
invariant-loop-i l = IsIndex l.keys (take l.i l.edits)
