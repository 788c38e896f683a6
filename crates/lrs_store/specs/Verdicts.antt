-- Which table of a store is unsound that no connection takes.
use Rattle.std.specs.Prelude.{◌≡◌, ◌<◌, ◌≤◌, ℕ, List, Option, None, Some, Err, IsTrue}
use Rattle.sqlite_value.specs.Order.{Row}
use Rattle.sqlite_trees.specs.Tree.{Trees}
use Rattle.sqlite_trees.specs.View.{View, IsClean}
use Rattle.sqlite_trees.specs.Objects.{catalog_tree}
use Rattle.sqlite_catalog.specs.Listing.{Lists}
use Rattle.lrs_machine.specs.declared.table.Table.{Table}
use Rattle.lrs_store_tables.specs.Contents.Tables.{Tables}
use Rattle.lrs_store_tables.specs.Contents.Content.{content_of}
use Rattle.lrs_store_tables.specs.StoredRows.{stored}
use Rattle.lrs_store_tables.specs.TableCreation.{first_tables, first_rows}
use Rattle.lrs_store_files.specs.declared.table_list.Known.{Known}
use Rattle.lrs_store_files.specs.declared.table_list.Known.TheVariants as known
use Rattle.lrs_store_tables.specs.declared.stored_rows.StoredRows.{StoredRows}
use Rattle.lrs_store_tables.specs.Rows.{tables_of}

-- the catalog lists no table of an inventory, or others too
abbrev pub ListsOthers : List Row → Type 0
ListsOthers catalog = (n : ℕ) → 0 < n → n ≤ 12 → Lists catalog (first_tables n) → ⊥

-- the catalog lists these tables
abbrev pub ListsKnown : Known → List Row → Type 0
ListsKnown (known.First n) catalog = (n ≤ 12) × Lists catalog (first_tables n)
ListsKnown known.Other catalog = ListsOthers catalog

-- the trees list the first of the tables, which have these rows; a table that is missing has none
abbrev pub HasRows : Tables → Trees → Type 0
HasRows rows db = (n : ℕ) × (0 < n) × (n ≤ 12) × Lists (db catalog_tree) (first_tables n) × (rows ≡ first_rows n (stored db))

-- the rows of the first of the tables, where there are some
abbrev pub AreFirst : Known → StoredRows → Option StoredRows → Type 0
AreFirst (known.First n) rows (Some first) = (0 < n) × (tables_of first ≡ first_rows n (tables_of rows))
AreFirst (known.First n) rows None = n ≡ 0
AreFirst known.Other rows found = found ≡ None

-- these are the rows of an inventory's tables, or there are no such tables
abbrev pub HasFound : Option StoredRows → Trees → Type 0
HasFound (Some rows) db = HasRows (tables_of rows) db
HasFound None db = ListsOthers (db catalog_tree)

-- The rows hold no image: this table is the first unsound one.
pub record IsUnsoundIn (t : Table) (db : Trees) : Type 0 where
  pub rows : Tables
  pub are : HasRows rows db
  pub unsound : content_of rows ≡ Err t

-- This table is the first unsound one of whatever an opening may find of this store, if its disk is clean.
abbrev pub IsUnsoundThere : {S : Type 0} → (S → View) → (S → Trees → Type 0) → Table → S → Type 0
IsUnsoundThere view recovers t s = IsClean (view s) → (db : Trees) → recovers s db → IsUnsoundIn t db

-- No table of an inventory is unsound in whatever an opening may find of this store, if its disk is clean and has not failed.
abbrev pub IsSoundThere : {S : Type 0} → (S → View) → (S → ℕ) → (S → Trees → Type 0) → S → Type 0
IsSoundThere view faults recovers s = IsClean (view s) → IsTrue (view s).is_open → faults s ≡ 0 → (db : Trees) → recovers s db → (t : Table) → IsUnsoundIn t db → ⊥
