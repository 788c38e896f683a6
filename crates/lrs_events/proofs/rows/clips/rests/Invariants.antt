use Rattle.std.proofs.Common.{◌≡◌, take}
use Rattle.std.specs.List.{flat_map}
use Rattle.lrs_events.specs.Row.Clips.{outside}
use Rattle.lrs_events.proofs.rows.clips.rests.Given as goal

abbrev pub invariant-loop-row : goal.invariant-loop-row
invariant-loop-row l = l.out.items ≡ flat_map (outside l.low l.high) (take l.row-index l.rows)
