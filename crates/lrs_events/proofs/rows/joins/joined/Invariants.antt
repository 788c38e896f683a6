use Rattle.std.proofs.Common.{take}
use Rattle.lrs_events.proofs.Row.Seams.{AreJoined}
use Rattle.lrs_events.proofs.rows.joins.joined.Given as goal

abbrev pub invariant-loop-row : goal.invariant-loop-row
invariant-loop-row l = AreJoined l.shift l.first (take l.row-index l.second) l.change.gone.items l.change.come.items
