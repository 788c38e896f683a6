use Rattle.std.proofs.Common.{take}
use Rattle.lrs_events.proofs.LaneLists.Starts.{LieWithin}
use Rattle.lrs_events.proofs.lanes.sorted_rows.starts.Given as goal

abbrev pub invariant-loop-row : goal.invariant-loop-row
invariant-loop-row l = LieWithin l.least l.greatest (take l.row-index l.rows)
