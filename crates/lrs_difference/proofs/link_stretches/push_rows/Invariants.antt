use Rattle.std.proofs.Common.{◌≡◌, ◌++◌, take}
use Rattle.std.specs.List.{flat_map}
use Rattle.lrs_difference.specs.Held.{held_by_row}
use Rattle.lrs_difference.proofs.link_stretches.push_rows.Given as goal

abbrev pub invariant-loop-row : goal.invariant-loop-row
invariant-loop-row l = l.held.items ≡ l.fn.held.items ++ flat_map (held_by_row l.course) (take l.row-index l.rows)
