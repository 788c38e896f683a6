use Rattle.std.proofs.Common.{◌≡◌, take}
use Rattle.std.specs.List.{flat_map}
use Rattle.lrs_events.specs.Row.Sides.{side_rest}
use Rattle.lrs_events.proofs.rows.sides.side_rests.Given as goal

abbrev pub invariant-loop-row : goal.invariant-loop-row
invariant-loop-row l = l.out.items ≡ flat_map (side_rest l.low l.high l.side) (take l.row-index l.rows)
