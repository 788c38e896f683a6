-- What an opening of a store makes of the rows that it finds.
use Rattle.std.specs.Prelude.{◌≡◌, ◌⊎◌, ℕ, ◌<◌, ◌≤◌, IsTrue}
use Rattle.std.specs.List.{AllByRecursion}
use Rattle.sqlite_trees.specs.Tree.{Trees}
use Rattle.sqlite_schema.specs.declared.schema.Table.{Table}
use Rattle.sqlite_schema.specs.declared.schema.Schema.{Schema}
use Rattle.sqlite.specs.Effect.{Database}
use Rattle.sqlite.specs.State.{State, HasCleanDisk, Opens}
use Rattle.lrs_store_tables.specs.Contents.Tables.{Tables, AreSame}
use Rattle.lrs_store_tables.specs.Schema.{inventory}
use Rattle.lrs_store_tables.specs.StoredRows.{stored, AreNumbered}
use Rattle.lrs_store_tables.specs.TableCreation.{no_schema, first_tables, first_rows, HasFirst}
use Rattle.lrs_store_tables.specs.NewStores.{new_rows}
use Rattle.lrs_store_tables.specs.HeldRows.{HoldsOnly}

-- The first tables of an inventory, in the order in which they are made: none, some or all.
abbrev pub IsKnown : Schema → Type 0
IsKnown s = (n : ℕ) × (n ≤ 12) × (s ≡ first_tables n)

-- What an opening makes of a store: one without tables is made new, and in one that has tables all rows stay, and no other is there.
pub record IsTaken (old new : State) : Type 0 where
  pub known : IsKnown old.now.schema
  pub made : old.now.schema ≡ no_schema → HoldsOnly new new_rows
  pub kept : (n : ℕ) → 0 < n → n ≤ 12 → old.now.schema ≡ first_tables n → HoldsOnly new (first_rows n (stored old.now.trees))

-- the rows of each table have numbers of their own
abbrev pub HasNumbers : Database → Type 0
HasNumbers db = AllByRecursion (λ (t : Table). AreNumbered (db.trees t.tree)) db.schema.tables

-- a connection that was just opened
abbrev pub IsFound : State → Type 0
IsFound s = HasCleanDisk s → Opens s × HasNumbers s.now

-- Tables were to be made in a store without one, or in one that lacks some: these are the rows of a new store, or the rows that are there.
abbrev pub HasBegun : Schema → Tables → Tables → Type 0
HasBegun schema before after =
    (schema ≡ no_schema × AreSame new_rows after) ⊎ ((n : ℕ) × (0 < n) × (n < 12) × (schema ≡ first_tables n) × AreSame (first_rows n before) after)

-- an opening finds what the connection found, or what tables that were to be made in it hold
pub record LeavesFound (old new : State) : Type 0 where
  pub clean : HasCleanDisk new → HasCleanDisk old
  pub finds : HasCleanDisk new → (db : Trees) → new.may_leave db → (db ≡ old.committed.trees) ⊎ HasBegun old.now.schema (stored old.now.trees) (stored db)

-- The missing tables were made, without a row, and are committed; the others have their rows.
pub record IsGrown (n : ℕ) (old new : State) : Type 0 where
  pub is_open : IsTrue new.is_open
  pub schema : new.now.schema ≡ inventory
  pub rows : HasFirst n 12 old.now.trees new.now.trees
  pub settled : new.now ≡ new.committed
