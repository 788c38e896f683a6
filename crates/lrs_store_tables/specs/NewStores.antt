-- The tables of a store that was just made, and of one that is brought up to version 2.
use Rattle.std.specs.Prelude.{◌≡◌, pos, List, [], ◌∷◌, IsTrue, Ok}
use Rattle.sqlite.specs.State.{State}
use Rattle.lrs_events.specs.declared.class.Asset.{Asset}
use Rattle.lrs_machine.specs.Image.{nothing}
use Rattle.lrs_store_tables.specs.Contents.Tables.{Tables, no_rows}
use Rattle.lrs_store_tables.specs.Contents.Content.{content_of}
use Rattle.lrs_store_tables.specs.Contents.Laws.{brought_up}
use Rattle.lrs_store_tables.specs.Contents.Tables.{AreSame}
use Rattle.lrs_store_tables.specs.StoredRows.{stored, IsWriting}
use Rattle.lrs_store_tables.specs.Connections.{IsAtRest}

-- a store of version 2 without entries
abbrev pub new_rows : Tables
new_rows = record no_rows { version = pos 2 ∷ [] }

-- Such a store holds the image without entries.
abbrev pub NewRowsHoldNothing : Type 0
NewRowsHoldNothing = content_of new_rows ≡ Ok nothing

-- The tables are there, inside a transaction, with the row of the version alone.
pub record IsStarted (s : State) : Type 0 where
  pub writing : IsWriting s
  pub rows : AreSame new_rows (stored s.now.trees)

-- The same, and committed.
pub record IsNew (s : State) : Type 0 where
  pub is_open : IsTrue s.is_open
  pub rest : IsAtRest s
  pub rows : AreSame new_rows (stored s.committed.trees)

-- A call inside a transaction writes the rows of version 2, with the origins of these assets.
pub record BringsUp (assets : List Asset) (old new : State) : Type 0 where
  pub writing : IsWriting new
  pub was_open : IsTrue old.is_open
  pub rows : AreSame (brought_up assets (stored old.now.trees)) (stored new.now.trees)
