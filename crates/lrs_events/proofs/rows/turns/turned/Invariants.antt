use Rattle.std.proofs.Common.{◌-◌, length, take, drop}
use Rattle.lrs_events.proofs.Row.Mirrors.{AreTurned}
use Rattle.lrs_events.proofs.rows.turns.turned.Given as goal

abbrev pub invariant-loop-start : goal.invariant-loop-start
invariant-loop-start l = AreTurned l.len (take l.start l.rows) (drop l.start l.rows) l.out.items

abbrev pub decreases-loop-start : goal.decreases-loop-start
decreases-loop-start l = length l.rows - l.start
