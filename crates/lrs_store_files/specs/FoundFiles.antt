-- What an opening of files leaves of the rows that they held.
use Rattle.std.specs.Prelude.{◌≡◌, ◌⊎◌, ℕ, ◌<◌, ◌≤◌}
use Rattle.sqlite_schema.specs.declared.schema.Schema.{Schema}
use Rattle.sqlite_catalog.specs.Listing.{IsSound}
use Rattle.sqlite_trees.specs.Tree.{Trees}
use Rattle.sqlite_disk.specs.declared.Disk.{Ghosts}
use Rattle.sqlite_wal.specs.Recovery.{Image}
use Rattle.sqlite_disk.specs.declared.Files.{Files}
use Rattle.sqlite.specs.State.{State, HasCleanDisk}
use Rattle.sqlite.specs.Start.{FindsIn}
use Rattle.sqlite.specs.Files.{HoldsDatabase, AreFoundIn, IsCleanLeft, LeavesFiles, file_state, image_of}
use Rattle.lrs_store_tables.specs.StoredRows.{stored}
use Rattle.lrs_store_tables.specs.TableCreation.{no_schema, first_tables, first_rows}
use Rattle.lrs_store_tables.specs.NewStores.{new_rows}
use Rattle.lrs_store_tables.specs.HeldRows.{HoldsOnly}
use Rattle.lrs_store_files.specs.Openings.{IsKnown, HasBegun}
use Rattle.lrs_store_files.specs.declared.files.Untaken.{Untaken}
use Rattle.lrs_store_files.specs.declared.files.Untaken.TheVariants as untaken

-- The files held these trees, of tables that are known. A store without tables was made new, and all rows of one with tables stay; a table that it lacked has none.
pub record HasFound (image : Image) (s : State) : Type 0 where
  pub trees : Trees
  pub schema : Schema
  pub reads : AreFoundIn image trees
  pub holds : (db : Trees) → HoldsDatabase image db → trees ≡ db
  pub sound : IsSound schema trees
  pub known : IsKnown schema
  pub made : schema ≡ no_schema → HoldsOnly s new_rows
  pub kept : (n : ℕ) → 0 < n → n ≤ 12 → schema ≡ first_tables n → HoldsOnly s (first_rows n (stored trees))

-- The files held these trees, and tables were to be made in them: such rows hold the same inventory.
pub record IsBegun (image : Image) (db : Trees) : Type 0 where
  pub trees : Trees
  pub schema : Schema
  pub reads : AreFoundIn image trees
  pub sound : IsSound schema trees
  pub begun : HasBegun schema (stored trees) (stored db)

-- a connection found what files with this image held, if its disk is clean
abbrev pub WasRead : Image → State → Type 0
WasRead image s = HasCleanDisk s → FindsIn image s

-- a later opening finds what it might have found in files with this image, or what tables that were to be made in them hold
abbrev pub LeavesRead : Image → State → Type 0
LeavesRead image s = HasCleanDisk s → (db : Trees) → s.may_leave db → AreFoundIn image db ⊎ IsBegun image db

-- What an opening left that took no tables: where the disk is clean, a later opening finds there what it might have found in the files that the opening began with, or what tables that were to be made in them hold.
abbrev pub IsLeftOf : {D : Type 0} {g : Ghosts D} → Image → (Files D → Type 0) → Untaken D g → Type 0
IsLeftOf {D = D} {g = g} image Began (untaken.Refused left) = IsCleanLeft left → (files : Files D) × (image_of g files ≡ image) × Began files × LeavesFiles files left
IsLeftOf image Began (untaken.Connected conn) = LeavesRead image (file_state conn)
