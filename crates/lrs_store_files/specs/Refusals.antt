-- Why an opening takes no tables of files.
use Rattle.std.specs.Prelude.{◌⊎◌, ℕ, ◌<◌, ◌≤◌}
use Rattle.sqlite_disk.specs.declared.Disk.{Ghosts}
use Rattle.sqlite_trees.specs.Tree.{Trees}
use Rattle.sqlite_trees.specs.Objects.{catalog_tree}
use Rattle.sqlite_catalog.specs.Listing.{Lists}
use Rattle.sqlite_wal.specs.Recovery.{Image}
use Rattle.sqlite.specs.State.{State, HasCleanDisk}
use Rattle.sqlite.specs.Files.{HoldsDatabase, IsNothing, AreFoundIn, IsCleanLeft, IsFullLeft, faults_left, file_state}
use Rattle.lrs_store_tables.specs.TableCreation.{first_tables}
use Rattle.lrs_store_files.specs.declared.files.Untaken.{Untaken}
use Rattle.lrs_store_files.specs.declared.files.Untaken.TheVariants as untaken

-- the files hold no database, and are no empty ones either
abbrev pub HoldNoDatabase : Image → Type 0
HoldNoDatabase image = (((db : Trees) × HoldsDatabase image db) ⊎ IsNothing image) → ⊥

-- the files list the first of an inventory's tables, in the order in which they are made: none, some or all
abbrev pub ListKnown : Image → Type 0
ListKnown image = (db : Trees) → AreFoundIn image db → (n : ℕ) × (n ≤ 12) × Lists (db catalog_tree) (first_tables n)

-- a call of the disk failed and was counted, if files with this image list an inventory's tables
abbrev pub HasFailedOn : Image → State → Type 0
HasFailedOn image s = HasCleanDisk s → ListKnown image → 0 < s.faults

-- Where the disk gives back what it was given: the kit's sqlite took no files since they hold no database, a call of the disk failed and was counted, or a file is at its limit; or they list other tables than an inventory's, or a call of the disk failed once they were connected.
abbrev pub HasGrounds : {D : Type 0} {g : Ghosts D} → Image → Untaken D g → Type 0
HasGrounds image (untaken.Refused left) = IsCleanLeft left → HoldNoDatabase image ⊎ ((0 < faults_left left) ⊎ IsFullLeft left)
HasGrounds image (untaken.Connected conn) = HasFailedOn image (file_state conn)
