use Rattle.std.proofs.Common.{◌≡◌, ◌≤◌, ◌-◌, length, take}
use Rattle.sqlite.specs.State.{HasCleanDisk, Survives}
use Rattle.sqlite.specs.Held.{state}
use Rattle.lrs_store_tables.specs.StoredRows.{IsWriting}
use Rattle.lrs_store_tables.specs.Writes.{WritesEach}
use Rattle.lrs_store_commit.proofs.commit.write_each.Given as goal

abbrev pub invariant-loop-done : goal.invariant-loop-done
invariant-loop-done g l = record {
  within : l.done ≤ length l.changes;
  same : l.tx.conn.ghost_name ≡ l.fn.tx.conn.ghost_name;
  does : HasCleanDisk (state g.S.Store l.tx.conn.now) → IsWriting (state g.S.Store l.fn.tx.conn.now)
      → WritesEach l.n (take l.done l.changes) (state g.S.Store l.fn.tx.conn.now) (state g.S.Store l.tx.conn.now);
  survives : Survives (state g.S.Store l.fn.tx.conn.now) (state g.S.Store l.tx.conn.now) (λ _. ⊥);
}

abbrev pub decreases-loop-done : goal.decreases-loop-done
decreases-loop-done g l = length l.changes - l.done
