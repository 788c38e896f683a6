-- Files that no keeper takes.
use Rattle.std.specs.Prelude.{◌≡◌, ◌<◌, ◌≤◌, ◌⊎◌, ℕ, pos, [], ◌∷◌, Option, None, Some, Result, Err, ⊤}
use Rattle.sqlite_disk.specs.declared.Disk.{Ghosts}
use Rattle.sqlite_disk.specs.declared.Files.{Files}
use Rattle.sqlite_trees.specs.Tree.{Trees}
use Rattle.sqlite_trees.specs.Objects.{catalog_tree}
use Rattle.sqlite_trees.specs.View.{doubt}
use Rattle.sqlite_catalog.specs.Listing.{Lists}
use Rattle.sqlite_wal.specs.Recovery as wal
use Rattle.sqlite_store.specs.declared.store.FileStore.{FileStore}
use Rattle.sqlite_store.specs.FileStore.{view, faults, recovers}
use Rattle.sqlite.specs.declared.file.Leftover.TheVariants as leftover
use Rattle.sqlite.specs.State.{HasCleanDisk, State}
use Rattle.sqlite.specs.Files.{AreFoundIn, file_state}
use Rattle.lrs_machine.specs.declared.image.Image.{Image}
use Rattle.lrs_machine.specs.declared.table.Table.{Table}
use Rattle.lrs_store_files.specs.declared.files.Untaken.{Untaken}
use Rattle.lrs_store_files.specs.declared.files.Untaken.TheVariants as untaken
use Rattle.lrs_store_tables.specs.Schema.{inventory}
use Rattle.lrs_store_tables.specs.TableCreation.{no_schema, first_tables}
use Rattle.lrs_store_tables.specs.StoredRows.{stored}
use Rattle.lrs_store_files.specs.FoundFiles.{HasFound, IsLeftOf}
use Rattle.lrs_store_files.specs.Refusals.{HasGrounds}
use Rattle.lrs_store.specs.Verdicts.{IsUnsoundThere, IsSoundThere}
use Rattle.lrs_store_tables.specs.HeldRows.{MayHold}
use Rattle.lrs_store.specs.TableKeeper.Openings.{HoldsAnImage}
use Rattle.lrs_store.specs.declared.files.Left.{Left}
use Rattle.lrs_store.specs.declared.files.Left.TheVariants as left
use Rattle.lrs_store_files.specs.OpenedFiles.{HasOpened}

-- a store that no connection takes is left, and this is its first unsound table
abbrev pub IsUnsoundLeft : {D : Type 0} {g : Ghosts D} → Table → Untaken D g → Type 0
IsUnsoundLeft t (untaken.Refused (leftover.Store store)) = IsUnsoundThere view recovers t store
IsUnsoundLeft t (untaken.Refused (leftover.Unopened files)) = ⊥
IsUnsoundLeft t (untaken.Refused (leftover.Files files)) = ⊥
IsUnsoundLeft t (untaken.Connected conn) = ⊥

-- if a store that no connection takes is left, no table of an inventory is unsound in it
abbrev pub IsSoundLeft : {D : Type 0} {g : Ghosts D} → Untaken D g → Type 0
IsSoundLeft (untaken.Refused (leftover.Store store)) = IsSoundThere view faults recovers store
IsSoundLeft (untaken.Refused (leftover.Unopened files)) = ⊤
IsSoundLeft (untaken.Refused (leftover.Files files)) = ⊤
IsSoundLeft (untaken.Connected conn) = ⊤

-- this table is the first unsound one of what these tables may hold
abbrev pub AreUnsound : Table → State → Type 0
AreUnsound t s = (c : Result Image Table) → MayHold s c → c ≡ Err t

-- these tables have each row of files with this image, if their disk is clean
abbrev pub HaveRowsOf : wal.Image → State → Type 0
HaveRowsOf image s = HasCleanDisk s → HasFound image s

-- these tables have the content of files with this image, if they may hold any
abbrev pub HaveContentOf : wal.Image → State → Type 0
HaveContentOf image s = (c : Result Image Table) → MayHold s c → HasOpened image s

-- this table is the first unsound one of whatever a later opening may find in what is left
abbrev pub HoldsUnsound : {D : Type 0} {g : Ghosts D} → Table → Left D g → Type 0
HoldsUnsound t (left.Untaken untaken) = IsUnsoundLeft t untaken
HoldsUnsound t (left.Opened conn) = AreUnsound t (file_state conn)
HoldsUnsound t left.Nothing = ⊥

-- where no tables were taken, none is unsound
abbrev pub HoldsNoUnsound : {D : Type 0} {g : Ghosts D} → Left D g → Type 0
HoldsNoUnsound (left.Untaken untaken) = IsSoundLeft untaken
HoldsNoUnsound (left.Opened conn) = ⊤
HoldsNoUnsound left.Nothing = ⊤

-- What is left holds what the files held with which the opening began: their tables were not taken, or they were, and the content is what it was.
abbrev pub HoldsStill : {D : Type 0} {g : Ghosts D} → wal.Image → (Files D → Type 0) → Left D g → Type 0
HoldsStill image Began (left.Untaken untaken) = IsLeftOf image Began untaken
HoldsStill image Began (left.Opened conn) = HaveContentOf image (file_state conn)
HoldsStill image Began left.Nothing = ⊤

-- The same of each row: their tables were not taken, or they were, and all rows of the files are there.
abbrev pub HoldsEachRow : {D : Type 0} {g : Ghosts D} → wal.Image → (Files D → Type 0) → Left D g → Type 0
HoldsEachRow image Began (left.Untaken untaken) = IsLeftOf image Began untaken
HoldsEachRow image Began (left.Opened conn) = HaveRowsOf image (file_state conn)
HoldsEachRow image Began left.Nothing = ⊤

-- Files that hold a store of version 2: it has the tables, and the row of that version.
abbrev pub HoldSecond : wal.Image → Type 0
HoldSecond image = (db : Trees) → AreFoundIn image db → Lists (db catalog_tree) inventory × ((stored db).version ≡ pos 2 ∷ [])

-- A store that is left was looked at: no doubt of its disk is forgotten, and a later opening finds there what it might have found before.
pub record WasLookedAt {D : Type 0} {g : Ghosts D} (old new : Untaken D g) : Type 0 where
  pub before : FileStore D g
  pub after : FileStore D g
  pub was : old ≡ untaken.Refused (leftover.Store before)
  pub is : new ≡ untaken.Refused (leftover.Store after)
  pub clean : doubt (view before).is_clean ≤ doubt (view after).is_clean
  pub outcomes : (db : Trees) → recovers after db → recovers before db

-- what was left of files whose tables were not taken is left, and was at most looked at
abbrev pub IsHandedOn : {D : Type 0} {g : Ghosts D} → Option (Untaken D g) → Left D g → Type 0
IsHandedOn None l = l ≡ left.Nothing
IsHandedOn {D = D} {g = g} (Some old) l = (new : Untaken D g) × (l ≡ left.Untaken new) × ((new ≡ old) ⊎ WasLookedAt old new)

-- Files whose rows are of version 2 once they are taken: they list no table, so that a new store is made, or some of an inventory's or all, with the row of that version.
abbrev pub BecomeSecond : wal.Image → Type 0
BecomeSecond image = (db : Trees) → AreFoundIn image db
    → Lists (db catalog_tree) no_schema ⊎ ((n : ℕ) × (0 < n) × (n ≤ 12) × Lists (db catalog_tree) (first_tables n) × ((stored db).version ≡ pos 2 ∷ []))

-- Why tables that were taken of files with this image are given up: a call of the disk failed and was counted, where the rows were of version 2 once they were taken, or hold no image.
abbrev pub AreGivenUpFor : wal.Image → State → Type 0
AreGivenUpFor image s = HasCleanDisk s → (BecomeSecond image → 0 < s.faults) × ((0 < s.faults) ⊎ HoldsAnImage s)

-- Why an opening answers that the store failed: what the kit's sqlite gave back, and was at most looked at since, was refused on grounds; or tables were taken, and given up. Where nothing is left the system did not open the files, of which no clause can speak.
abbrev pub IsRefusedFor : {D : Type 0} {g : Ghosts D} → wal.Image → Left D g → Type 0
IsRefusedFor {D = D} {g = g} image (left.Untaken new) = (before : Untaken D g) × ((new ≡ before) ⊎ WasLookedAt before new) × HasGrounds image before
IsRefusedFor image (left.Opened conn) = AreGivenUpFor image (file_state conn)
IsRefusedFor image left.Nothing = ⊤
