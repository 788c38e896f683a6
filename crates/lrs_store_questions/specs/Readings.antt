-- What is read of a store without a connection.
use Rattle.std.specs.Prelude.{◌≡◌, Result, Ok, Err, IsTrue}
use Rattle.std.proofs.Common.{refl}
use Rattle.sqlite_trees.specs.Tree.{Trees}
use Rattle.sqlite_trees.specs.View.{View, IsClean}
use Rattle.sqlite_trees.specs.Objects.{catalog_tree}
use Rattle.sqlite_catalog.specs.Listing.{Lists}
use Rattle.lrs_machine.specs.declared.image.Image.{Image}
use Rattle.lrs_machine.specs.declared.table.Table.{Table}
use Rattle.lrs_image.specs.declared.keeper.LoadFault.{LoadFault}
use Rattle.lrs_image.specs.declared.keeper.LoadFault.TheVariants.{Memory, Store, Unsound}
use Rattle.lrs_store_tables.specs.Contents.Content.{content_of}
use Rattle.lrs_store_tables.specs.Schema.{inventory}
use Rattle.lrs_store_tables.specs.StoredRows.{stored}
use Rattle.lrs_store_tables.specs.declared.stored_rows.NamedRows.{NamedRows}
use Rattle.lrs_store_tables.specs.declared.stored_rows.RouteRows.{RouteRows}
use Rattle.lrs_store_files.specs.SeenRows.{HasNamed, HasRoutes}

-- the trees list the tables of an inventory and no others
abbrev pub ListInventory : Trees → Type 0
ListInventory db = Lists (db catalog_tree) inventory

-- The trees list the tables of an inventory, and these are the rows of those beside the ledgers.
pub record HasFirst (n : NamedRows) (r : RouteRows) (db : Trees) : Type 0 where
  pub lists : ListInventory db
  pub named : HasNamed n db
  pub routes : HasRoutes r db

-- The trees list the tables of an inventory, whose rows hold this image, or whose first unsound table this is.
pub record HasContent (c : Result Image Table) (db : Trees) : Type 0 where
  pub lists : ListInventory db
  pub is : content_of (stored db) ≡ c

-- this answer says what the content is: an image, or the first unsound table
abbrev pub Says : Result Image LoadFault → Result Image Table → Type 0
Says (Ok image) c = c ≡ Ok image
Says (Err (Unsound t)) c = c ≡ Err t
Says (Err Memory) c = ⊥
Says (Err Store) c = ⊥

module _ {S : Type 0} (view : S → View) (recovers : S → Trees → Type 0) where
  -- this is the content of whatever an opening may find of this store, if its disk is clean
  abbrev pub HoldsThere : Result Image Table → S → Type 0
  HoldsThere c s = IsClean (view s) → (db : Trees) → recovers s db → HasContent c db

  -- An opening at this moment, after a crash too, may find this content: the disk gives back what it was given, and these are trees that may be left.
  abbrev pub MayTell : Result Image Table → S → Type 0
  MayTell c s = IsClean (view s) × ((db : Trees) × recovers s db × HasContent c db)

-- The store tells of an inventory: it is open, and what was committed last are an inventory's tables.
pub record IsTold {S : Type 0} (view : S → View) (s : S) : Type 0 where
  pub is_open : IsTrue (view s).is_open
  pub lists : ListInventory (view s).committed

-- so an opening finds it, if the disk is clean
pub finds_told : {S : Type 0} (view : S → View) (recovers : S → Trees → Type 0) (s : S) → IsClean (view s) → IsTold view s → recovers s (view s).committed → (c : Result Image Table) × MayTell view recovers c s
finds_told view recovers s clean told left = (content_of (stored (view s).committed), (clean, ((view s).committed, left, record { lists = told.lists; is = refl })))
