use Rattle.std.proofs.Common.{◌≡◌, ◌++◌, drop}
use Rattle.lrs_events.specs.Row.Turns.{mirrored_rows}
use Rattle.lrs_events.proofs.rows.turns.push_mirrored.Given as goal

abbrev pub invariant-loop-i : goal.invariant-loop-i
invariant-loop-i l = l.out.items ≡ l.fn.out.items ++ mirrored_rows l.len (drop l.i l.rows)
