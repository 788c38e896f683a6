use Rattle.std.proofs.Common.{◌≡◌, take}
use Rattle.sqlite.specs.State.{HasCleanDisk, Survives}
use Rattle.sqlite.specs.Held.{state}
use Rattle.lrs_store_tables.specs.StoredRows.{IsWriting, Makes}
use Rattle.lrs_store_commit.proofs.lists.write_all.Given as goal

abbrev pub invariant-loop-i : goal.invariant-loop-i
invariant-loop-i g l = record {
  same : l.tx.conn.ghost_name ≡ l.fn.tx.conn.ghost_name;
  does : HasCleanDisk (state g.S.Store l.tx.conn.now) → IsWriting (state g.S.Store l.fn.tx.conn.now)
      → Makes (g.R.Written.all l.of 0 (take l.i l.rows)) (state g.S.Store l.fn.tx.conn.now) (state g.S.Store l.tx.conn.now);
  survives : Survives (state g.S.Store l.fn.tx.conn.now) (state g.S.Store l.tx.conn.now) (λ _. ⊥);
}
