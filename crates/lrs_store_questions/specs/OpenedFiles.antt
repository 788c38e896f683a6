-- Two files that are opened as a store.
use Rattle.std.specs.Prelude.{◌≡◌, List, map, IsTrue}
use Rattle.sqlite_disk.specs.declared.Disk.{Ghosts}
use Rattle.sqlite_pages.specs.PageMap.{PageMap}
use Rattle.sqlite_value.specs.Order.{Row}
use Rattle.sqlite_trees.specs.Tree.{Trees}
use Rattle.sqlite_trees.specs.declared.store.Shape.TheVariants.{Table}
use Rattle.sqlite_wal.specs.Recovery.{Image}
use Rattle.sqlite_pool.specs.File.{in_use}
use Rattle.sqlite_pool.specs.Stored.{Recovers}
use Rattle.sqlite_store.specs.Db.{rows_at}
use Rattle.sqlite_store.specs.declared.store.FileStore.{FileStore}
use Rattle.sqlite_store.specs.declared.store.open.Unopened.{Unopened}
use Rattle.sqlite_store.specs.FileStore.{view}
use Rattle.sqlite_store.specs.Unopened as unopened
use Rattle.sqlite.specs.Files.{HoldsDatabase, AreFoundIn}
use Rattle.sqlite.specs.Opening.{unrooted}

module _ {D : Type 0} {g : Ghosts D} where
  -- The files recover to the same pages as before, whose sqlite_schema has these rows, but for their root pages.
  pub record HasListed (old new : Unopened D g) (rows : List Row) : Type 0 where
    pub pages : PageMap
    pub found : Recovers (unopened.state_of old).page_size (unopened.image old) pages
    pub again : Recovers (unopened.state_of old).page_size (unopened.image new) pages
    pub lists : rows ≡ map unrooted (rows_at (unopened.state_of old).page_size (in_use (unopened.state_of old).page_size pages) Table 1)

  -- The store is open, with nothing that is not committed. Its trees are what the files recover to, and the database that they held.
  pub record IsOpened (image : Image) (store : FileStore D g) : Type 0 where
    pub is_open : IsTrue (view store).is_open
    pub settled : (view store).trees ≡ (view store).committed
    pub found : AreFoundIn image (view store).trees
    pub holds : (db : Trees) → HoldsDatabase image db → (view store).trees ≡ db
