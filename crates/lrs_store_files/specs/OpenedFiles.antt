-- What an opening leaves of the image that files hold.
use Rattle.std.specs.Prelude.{◌≡◌, ◌<◌, ◌≤◌, ℕ, Result, Ok}
use Rattle.sqlite_schema.specs.declared.schema.Schema.{Schema}
use Rattle.sqlite_catalog.specs.Listing.{IsSound}
use Rattle.sqlite_trees.specs.Tree.{Trees}
use Rattle.sqlite_wal.specs.Recovery as wal
use Rattle.sqlite.specs.State.{State}
use Rattle.sqlite.specs.Files.{HoldsDatabase, AreFoundIn}
use Rattle.lrs_machine.specs.declared.image.Image.{Image}
use Rattle.lrs_machine.specs.declared.table.Table.{Table}
use Rattle.lrs_machine.specs.Image.{nothing}
use Rattle.lrs_store_tables.specs.Contents.Content.{content_of}
use Rattle.lrs_store_tables.specs.StoredRows.{stored}
use Rattle.lrs_store_tables.specs.TableCreation.{no_schema, first_tables, first_rows}
use Rattle.lrs_store_tables.specs.HeldRows.{MayHold}
use Rattle.lrs_store_files.specs.Openings.{IsKnown}

-- an opening finds this content, an image or the first unsound table, and no other
abbrev pub HoldsContent : State → Result Image Table → Type 0
HoldsContent s content = (c : Result Image Table) → MayHold s c → c ≡ content

-- Files with this image held this content: the image without entries where they list no table, and else what the first of the tables held, where a table that is missing has no row.
pub record IsContentOf (image : wal.Image) (c : Result Image Table) : Type 0 where
  pub trees : Trees
  pub schema : Schema
  pub reads : AreFoundIn image trees
  pub holds : (db : Trees) → HoldsDatabase image db → trees ≡ db
  pub sound : IsSound schema trees
  pub known : IsKnown schema
  pub made : schema ≡ no_schema → c ≡ Ok nothing
  pub kept : (n : ℕ) → 0 < n → n ≤ 12 → schema ≡ first_tables n → c ≡ content_of (first_rows n (stored trees))

-- The files held these trees, of tables that are known. A store without tables holds the image without entries, and one with the first of the tables what its rows held; a table that it lacked has no row.
pub record HasOpened (image : wal.Image) (s : State) : Type 0 where
  pub trees : Trees
  pub schema : Schema
  pub reads : AreFoundIn image trees
  pub holds : (db : Trees) → HoldsDatabase image db → trees ≡ db
  pub sound : IsSound schema trees
  pub known : IsKnown schema
  pub made : schema ≡ no_schema → HoldsContent s (Ok nothing)
  pub kept : (n : ℕ) → 0 < n → n ≤ 12 → schema ≡ first_tables n → HoldsContent s (content_of (first_rows n (stored trees)))
