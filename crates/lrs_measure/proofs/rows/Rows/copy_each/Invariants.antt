use Rattle.std.proofs.Common.{◌≡◌, take}
use Rattle.lrs_measure.proofs.rows.Rows.copy_each.Given as goal

abbrev pub invariant-loop-item : goal.invariant-loop-item
invariant-loop-item g l = l.items.items ≡ take l.item-index l.self
