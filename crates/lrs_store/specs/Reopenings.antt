-- Files that are closed and opened again.
use Rattle.std.specs.Prelude.{◌≡◌, ◌⊎◌, false, IsSomeAnd, Option, Result}
use Rattle.sqlite.specs.Closing.{IsCopied}
use Rattle.sqlite.specs.Files.{file_state, image_of}
use Rattle.sqlite.specs.State.{HasCleanDisk, State}
use Rattle.sqlite_disk.specs.declared.Disk.{Ghosts}
use Rattle.sqlite_disk.specs.declared.Files.{Files}
use Rattle.sqlite_store.specs.declared.store.FileStore.{FileStore}
use Rattle.sqlite_wal.specs.Files.{outcomes}
use Rattle.sqlite_wal.specs.Reads.{AreClean}
use Rattle.sqlite_wal.specs.Recovery as wal
use Rattle.lrs_machine.specs.declared.image.Image.{Image}
use Rattle.lrs_machine.specs.declared.table.Table.{Table}
use Rattle.lrs_image.specs.KeeperCalls.{HoldsSame}
use Rattle.lrs_store_tables.specs.HeldRows.{MayHold}
use Rattle.lrs_store_files.specs.OpenedFiles.{HasOpened, IsContentOf}
use Rattle.lrs_store.specs.TableKeeper.KeeperView.{KeeperView}

-- Files were closed and opened again.
pub record IsReopened {D R : Type 0} {g : Ghosts D} (old : KeeperView (FileStore D g) R) (new : State) : Type 0 where
  -- The files that the close gave: where their disk gives back what it was given, what was committed last is in them. From these, and from no others, the new keeper was opened.
  pub files : Files D
  pub copied : AreClean g files.log files.db → IsCopied old.conn files
  pub opened : HasCleanDisk new → HasOpened (image_of g files) new
  -- an opening then finds what might have been found before, and nothing else, if no write of the old keeper has failed
  pub found : old.is_broken ≡ false → AreClean g files.log files.db → HasCleanDisk new → HoldsSame (MayHold (file_state old.conn)) (MayHold new)

-- This is the content of files whose disk has given back what it was given, as they read or as a crash leaves them.
pub record MayBeFoundIn {D : Type 0} (g : Ghosts D) (files : Files D) (c : Result Image Table) : Type 0 where
  pub clean : AreClean g files.log files.db
  pub image : wal.Image
  pub reads : (image ≡ image_of g files) ⊎ outcomes g files.log files.db image
  pub content : IsContentOf image c

-- what an opening may find, if there are files
abbrev pub MayFind : {D : Type 0} → Ghosts D → Option (Files D) → Result Image Table → Type 0
MayFind g found c = IsSomeAnd found (λ files. MayBeFoundIn g files c)
