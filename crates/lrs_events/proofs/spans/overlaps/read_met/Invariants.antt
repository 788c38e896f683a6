use Rattle.std.proofs.Common.{◌≡◌, take}
use Rattle.std.specs.List.{filter}
use Rattle.lrs_events.specs.Row.Removals.{is_met}
use Rattle.lrs_events.proofs.spans.overlaps.read_met.Given as goal

abbrev pub invariant-loop-row : goal.invariant-loop-row
invariant-loop-row l = l.found.items ≡ filter (is_met l.low l.high) (take l.row-index l.rows)
