-- What a call that reads rows inside a transaction promises.
use Rattle.std.specs.Prelude.{◌≡◌, List, map, IsPermutation, Result, IfOk}
use Rattle.std.specs.Global.{Vec}
use Rattle.sqlite_value.specs.Order.{Row}
use Rattle.sqlite_trees.specs.declared.store.Store.{Ghosts}
use Rattle.sqlite.specs.declared.error.Error.{Error}
use Rattle.sqlite.specs.declared.transaction.Transaction.{Transaction}
use Rattle.sqlite.specs.State.{HasCleanDisk}
use Rattle.sqlite.specs.Held.{state}
use Rattle.lrs_store_tables.specs.Contents.Tables.{Tables}
use Rattle.lrs_store_tables.specs.StoredRows.{IsWriting, LeavesStore}
use Rattle.lrs_store_tables.specs.Failures.{ErrInsideHasReason}
use Rattle.lrs_store_tables.specs.Rows.{HasRead}

-- these are the rows of one table, in any order, and this is what a row of it says
abbrev pub AreRowsOf : {X : Type 0} → (Tables → List X) → (Row → X) → Vec Row → Tables → Type 0
AreRowsOf table said rows t = IsPermutation (table t) (map said rows.items)

-- Over a clean disk and inside a transaction, a call that answers Ok has read these rows, and has changed nothing. An
-- error has a reason, and a crash leaves what it would have left before the call.
pub record Reads {A S : Type 0} (g : Ghosts S) (Are : A → Tables → Type 0) (old new : Transaction S) (result : Result A Error) : Type 0 where
  pub same_reference : new.conn.ghost_name ≡ old.conn.ghost_name
  pub read : HasCleanDisk (state g new.conn.now) → IsWriting (state g old.conn.now) → IfOk result (λ found. HasRead (Are found) (state g old.conn.now) (state g new.conn.now))
  pub cause : ErrInsideHasReason result (state g old.conn.now) (state g new.conn.now)
  pub survives : LeavesStore (state g old.conn.now) (state g new.conn.now)
