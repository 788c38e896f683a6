use Rattle.std.proofs.Common.{◌≡◌}
use Rattle.sqlite.specs.State.{HasCleanDisk, Survives}
use Rattle.sqlite.specs.Held.{state}
use Rattle.lrs_store_tables.specs.TableCreation.{IsBegun, IsMaking}
use Rattle.lrs_store_tables.proofs.create.make_tables.Given as goal

abbrev pub invariant-loop-place : goal.invariant-loop-place
invariant-loop-place g l = record {
  same : l.tx.conn.ghost_name ≡ l.fn.tx.conn.ghost_name;
  making : HasCleanDisk (state g.S.Store l.tx.conn.now) → IsBegun l.first (state g.S.Store l.fn.tx.conn.now) → IsMaking l.first l.place (state g.S.Store l.fn.tx.conn.now) (state g.S.Store l.tx.conn.now);
  survives : Survives (state g.S.Store l.fn.tx.conn.now) (state g.S.Store l.tx.conn.now) (λ _. ⊥);
}
