-- The rows of all tables, as they were read part by part.
use Rattle.std.proofs.Common.{◌≡◌, map}
use Rattle.sqlite_trees.specs.Tree.{Trees}
use Rattle.lrs_store_tables.specs.declared.stored_rows.NamedRows.{NamedRows}
use Rattle.lrs_store_tables.specs.declared.stored_rows.RouteRows.{RouteRows}
use Rattle.lrs_store_tables.specs.declared.stored_rows.LedgerRows.{LedgerRows}
use Rattle.lrs_store_tables.specs.Rows.{tables_of}
use Rattle.lrs_store_tables.specs.StoredRows.{stored, version_in, link_in, class_in, asset_in, piece_in, mark_in, ref_in, span_in, entered_in, gone_in, edit_in, origin_in}
use Rattle.lrs_store_files.specs.SeenRows.{HasNamed, HasRoutes, HasLedgers, HasEdits}

pub all_rows : (n : NamedRows) (r : RouteRows) (l : LedgerRows) (db : Trees) → HasNamed n db → HasRoutes r db → HasLedgers l.entered.items l.gone.items db → HasEdits l.edit.items l.origin.items db
    → tables_of (record { named = n; routes = r; ledgers = l }) ≡ stored db
all_rows n r l db named routes ledgers edits = λ i. record {
  version = map version_in (named.version i);
  link = map link_in (named.link i);
  class = map class_in (named.class i);
  asset = map asset_in (named.asset i);
  piece = map piece_in (routes.piece i);
  mark = map mark_in (routes.mark i);
  ref = map ref_in (routes.referent i);
  span = map span_in (routes.span i);
  entered = map entered_in (ledgers.entered i);
  gone = map gone_in (ledgers.gone i);
  edit = map edit_in (edits.edit i);
  origin = map origin_in (edits.origin i);
}
