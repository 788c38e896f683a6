-- All rows of a store, as they were read, and what they are read as.
use Rattle.std.specs.Prelude.{◌≡◌, IsPermutation, Result, Ok, Err, map, ⊤}
use Rattle.sqlite.specs.State.{State, IsUnchanged}
use Rattle.lrs_machine.specs.declared.image.Image.{Image}
use Rattle.lrs_image.specs.declared.keeper.LoadFault.{LoadFault}
use Rattle.lrs_image.specs.declared.keeper.LoadFault.TheVariants.{Memory, Store, Unsound}
use Rattle.lrs_store_tables.specs.Contents.Tables.{Tables}
use Rattle.lrs_store_tables.specs.Contents.Content.{content_of}
use Rattle.lrs_store_tables.specs.StoredRows.{stored, version_in, link_in, class_in, asset_in, piece_in, mark_in, ref_in, span_in, entered_in, gone_in, edit_in, origin_in}
use Rattle.lrs_store_tables.specs.declared.stored_rows.NamedRows.{NamedRows}
use Rattle.lrs_store_tables.specs.declared.stored_rows.RouteRows.{RouteRows}
use Rattle.lrs_store_tables.specs.declared.stored_rows.LedgerRows.{LedgerRows}
use Rattle.lrs_store_tables.specs.declared.stored_rows.StoredRows.{StoredRows}

-- what the rows say, as rows of the tables
abbrev pub tables_of : StoredRows → Tables
tables_of r = record {
  version = map version_in r.named.version.items;
  link = map link_in r.named.link.items;
  class = map class_in r.named.class.items;
  asset = map asset_in r.named.asset.items;
  piece = map piece_in r.routes.piece.items;
  mark = map mark_in r.routes.mark.items;
  ref = map ref_in r.routes.referent.items;
  span = map span_in r.routes.span.items;
  entered = map entered_in r.ledgers.entered.items;
  gone = map gone_in r.ledgers.gone.items;
  edit = map edit_in r.ledgers.edit.items;
  origin = map origin_in r.ledgers.origin.items;
}

-- these are the rows of their tables, in any order

pub record AreNamed (r : NamedRows) (t : Tables) : Type 0 where
  pub version : IsPermutation t.version (map version_in r.version.items)
  pub link : IsPermutation t.link (map link_in r.link.items)
  pub class : IsPermutation t.class (map class_in r.class.items)
  pub asset : IsPermutation t.asset (map asset_in r.asset.items)

pub record AreOfRoutes (r : RouteRows) (t : Tables) : Type 0 where
  pub piece : IsPermutation t.piece (map piece_in r.piece.items)
  pub mark : IsPermutation t.mark (map mark_in r.mark.items)
  pub referent : IsPermutation t.ref (map ref_in r.referent.items)
  pub span : IsPermutation t.span (map span_in r.span.items)

pub record AreOfLedgers (r : LedgerRows) (t : Tables) : Type 0 where
  pub entered : IsPermutation t.entered (map entered_in r.entered.items)
  pub gone : IsPermutation t.gone (map gone_in r.gone.items)
  pub edit : IsPermutation t.edit (map edit_in r.edit.items)
  pub origin : IsPermutation t.origin (map origin_in r.origin.items)

-- this holds of the rows of the store, and nothing has changed
pub record HasRead (P : Tables → Type 0) (old new : State) : Type 0 where
  pub rows : P (stored old.now.trees)
  pub same : IsUnchanged old new

-- What an image is read as: what the rows hold, unless memory runs out.
abbrev pub Tells : Result Image LoadFault → Tables → Type 0
Tells (Ok image) t = content_of t ≡ Ok image
Tells (Err Memory) t = ⊤
Tells (Err Store) t = ⊥
Tells (Err (Unsound table)) t = content_of t ≡ Err table
