-- What is told of the files of an inventory, and what is left of them.
use Rattle.std.specs.Prelude.{◌≡◌, Result}
use Rattle.sqlite_disk.specs.declared.Disk.{Ghosts}
use Rattle.sqlite_disk.specs.declared.Files.{Files}
use Rattle.sqlite_trees.specs.Tree.{Trees}
use Rattle.sqlite_wal.specs.Recovery as wal
use Rattle.sqlite.specs.declared.file.Leftover.{Leftover}
use Rattle.sqlite.specs.Files.{HoldsDatabase, AreFoundIn, LeavesFiles, image_of}
use Rattle.lrs_machine.specs.declared.image.Image.{Image}
use Rattle.lrs_machine.specs.declared.table.Table.{Table}
use Rattle.lrs_store_questions.specs.Readings.{HasContent}

-- The files held these trees, of this content, and no others if they held a database.
pub record HasRead (image : wal.Image) (c : Result Image Table) : Type 0 where
  pub trees : Trees
  pub reads : AreFoundIn image trees
  pub holds : (db : Trees) → HoldsDatabase image db → trees ≡ db
  pub content : HasContent c trees

-- what is left of files that held this image: a later opening finds there what it might have found before
abbrev pub IsLeftAt : {D : Type 0} {g : Ghosts D} → wal.Image → Leftover D g → Type 0
IsLeftAt {D = D} {g = g} image left = (files : Files D) × (image_of g files ≡ image) × LeavesFiles files left
