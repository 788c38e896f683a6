use Rattle.std.proofs.Common.{◌≡◌, ◌++◌}
use Rattle.std.specs.List.{flat_map}
use Rattle.lrs_difference.specs.Held.{held_on}
use Rattle.lrs_difference.proofs.link_stretches.held_stretches.Given as goal

abbrev pub invariant-loop-row : goal.invariant-loop-row
invariant-loop-row l = l.held.items ++ flat_map held_on l.row-iterator ≡ flat_map held_on l.kept.routes.rows
