-- What changes leave that were not written, in a store that stays open.
use Rattle.std.specs.Prelude.{◌≡◌, IsTrue}
use Rattle.sqlite.specs.State.{State, HasCleanDisk}
use Rattle.lrs_store_tables.specs.Connections.{IsAtRest}

-- nothing was committed and nothing is under way: what it sees is committed, and the trees are those of before
pub record IsBack (old new : State) : Type 0 where
  pub settled : new.now ≡ new.committed
  pub trees : new.committed.trees ≡ old.committed.trees

-- so it is where the disk is clean, and the store was open and still is
abbrev pub GoesBack : State → State → Type 0
GoesBack old new = HasCleanDisk new → IsTrue old.is_open → IsTrue new.is_open → IsBack old new

-- the connection is at rest, over the trees of before
pub record IsUndone (old new : State) : Type 0 where
  pub rest : IsAtRest new
  pub trees : new.committed.trees ≡ old.committed.trees

-- so it is where the disk is clean, and the store was open and still is
abbrev pub LeavesUndone : State → State → Type 0
LeavesUndone old new = HasCleanDisk new → IsTrue old.is_open → IsTrue new.is_open → IsUndone old new
