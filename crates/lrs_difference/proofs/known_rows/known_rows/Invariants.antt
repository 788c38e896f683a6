use Rattle.std.proofs.Common.{◌≡◌, take}
use Rattle.std.specs.List.{flat_map}
use Rattle.lrs_difference.specs.HeldRows.{known_row}
use Rattle.lrs_difference.proofs.known_rows.known_rows.Given as goal

abbrev pub invariant-loop-stretch : goal.invariant-loop-stretch
invariant-loop-stretch l = l.rows.rows ≡ flat_map (known_row l.assets.rows) (take l.stretch-index l.held)
