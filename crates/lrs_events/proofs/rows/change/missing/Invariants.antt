use Rattle.std.proofs.Common.{◌≡◌, take}
use Rattle.lrs_events.specs.Row.Changes.{missing}
use Rattle.lrs_events.proofs.rows.change.missing.Given as goal

abbrev pub invariant-loop-row : goal.invariant-loop-row
invariant-loop-row l = l.out.items ≡ missing l.others (take l.row-index l.rows)
