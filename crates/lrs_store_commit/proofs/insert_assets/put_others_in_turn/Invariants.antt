use Rattle.std.proofs.Common.{◌≡◌, take}
use Rattle.sqlite.specs.State.{HasCleanDisk, Survives}
use Rattle.sqlite.specs.Held.{state}
use Rattle.lrs_store_tables.specs.StoredRows.{IsWriting, Makes}
use Rattle.lrs_store_commit.specs.NewAssets.{with_others_of}
use Rattle.lrs_store_commit.proofs.insert_assets.put_others_in_turn.Given as goal

abbrev pub invariant-loop-i : goal.invariant-loop-i
invariant-loop-i g l = record {
  same : l.tx.conn.ghost_name ≡ l.fn.tx.conn.ghost_name;
  does : HasCleanDisk (state g.S.Store l.tx.conn.now) → IsWriting (state g.S.Store l.fn.tx.conn.now)
      → Makes (with_others_of (take l.i l.entries)) (state g.S.Store l.fn.tx.conn.now) (state g.S.Store l.tx.conn.now);
  survives : Survives (state g.S.Store l.fn.tx.conn.now) (state g.S.Store l.tx.conn.now) (λ _. ⊥);
}
