-- What a connection over the tables knows between two calls.
use Rattle.std.specs.Prelude.{◌≡◌, IsTrue}
use Rattle.sqlite.specs.State.{State, HasCleanDisk}
use Rattle.lrs_store_tables.specs.Schema.{inventory}
use Rattle.lrs_store_tables.specs.StoredRows.{HasTables}

-- All that it sees is committed, and is in the tables.
pub record IsAtRest (s : State) : Type 0 where
  pub schema : s.now.schema ≡ inventory
  pub settled : s.now ≡ s.committed
  pub tables : HasTables s.now.trees

-- so it is while the store is open and its disk is clean
abbrev pub IsReady : State → Type 0
IsReady s = HasCleanDisk s → IsTrue s.is_open → IsAtRest s
