-- What an opening of a store at this moment may find, after a crash too: its rows, and what they hold.
use Rattle.std.specs.Prelude.{◌≡◌, Result}
use Rattle.sqlite_trees.specs.Tree.{Trees}
use Rattle.sqlite.specs.State.{State, HasCleanDisk}
use Rattle.lrs_machine.specs.declared.image.Image.{Image}
use Rattle.lrs_machine.specs.declared.table.Table.{Table}
use Rattle.lrs_store_tables.specs.Contents.Tables.{Tables, AreSame}
use Rattle.lrs_store_tables.specs.Contents.Content.{content_of}
use Rattle.lrs_store_tables.specs.StoredRows.{stored}

-- nothing but these rows, in any order
abbrev pub HoldsOnly : State → Tables → Type 0
HoldsOnly s t = HasCleanDisk s → (db : Trees) → s.may_leave db → AreSame t (stored db)

-- An opening at this moment, after a crash too, may find this: the disk gives back what it was given, and these are the contents of rows that may be left.
abbrev pub MayHold : State → Result Image Table → Type 0
MayHold s c = HasCleanDisk s × ((db : Trees) × s.may_leave db × (content_of (stored db) ≡ c))
