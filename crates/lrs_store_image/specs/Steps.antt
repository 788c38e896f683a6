-- The image of rows in three steps: what has names and lies on routes, both ledgers, and edits with origins.
use Rattle.std.specs.Prelude.{◌≡◌, ◌&&◌, true, Bool, List, map, if◌then◌else◌, Result, Ok, Err, ⊤}
use Rattle.std.specs.List.{list_all}
use Rattle.sqlite_value.specs.Order.{Row}
use Rattle.lrs_measure.specs.Lists.{is_nothing, each_two}
use Rattle.lrs_events.specs.Parts.{part_before}
use Rattle.lrs_machine.specs.declared.image.Image.{Image}
use Rattle.lrs_machine.specs.declared.image.Edit.{Edit}
use Rattle.lrs_machine.specs.declared.table.Table.{Table}
use Rattle.lrs_machine.specs.declared.table.Table.TheVariants as table
use Rattle.lrs_machine.specs.Image.{nothing}
use Rattle.lrs_machine.specs.Sound.{are_links, are_assets, are_courses, are_entered, gone_before, are_gone, are_edits, are_origins, asset_before}
use Rattle.lrs_image_sound.specs.Tables.{fits_route, route_courses, route_spans}
use Rattle.lrs_image.specs.declared.keeper.LoadFault.{LoadFault}
use Rattle.lrs_image.specs.declared.keeper.LoadFault.TheVariants.{Memory, Store, Unsound}
use Rattle.lrs_store_tables.specs.Contents.Tables.{Tables, EnteredRow, GoneRow, EditRow, OriginRow}
use Rattle.lrs_store_tables.specs.Contents.Decoders.{each_sorted, part_of, gone_of, origin_of}
use Rattle.lrs_store_tables.specs.Contents.Content.{◌>>=◌, read, edits_of, with_edit, origin_before, has_origins, content_of}
use Rattle.lrs_store_tables.specs.StoredRows.{version_in, link_in, class_in, asset_in, piece_in, mark_in, ref_in, span_in, edit_in, origin_in}
use Rattle.lrs_store_tables.specs.declared.stored_rows.NamedRows.{NamedRows}
use Rattle.lrs_store_tables.specs.declared.stored_rows.RouteRows.{RouteRows}
use Rattle.lrs_store_image.specs.declared.steps.Registers.{Registers}
use Rattle.lrs_store_image.specs.declared.steps.Begun.{Begun}
use Rattle.lrs_store_image.specs.declared.steps.Begun.TheVariants as begun
use Rattle.lrs_store_image.specs.declared.steps.Ledgers.{Ledgers}
use Rattle.lrs_store_image.specs.declared.steps.Held.{Held}
use Rattle.lrs_store_image.specs.declared.steps.Held.TheVariants as held

-- the rows of both ledgers
pub record LedgerTables : Type 0 where
  pub entered : List EnteredRow
  pub gone : List GoneRow

-- the rows of edits and of origins
pub record EditTables : Type 0 where
  pub edit : List EditRow
  pub origin : List OriginRow

abbrev pub edits_in : List Row → List Row → EditTables
edits_in edits origins = record { edit = map edit_in edits; origin = map origin_in origins }

-- all rows of a store: those that were read first, and these
abbrev pub tables_with : NamedRows → RouteRows → LedgerTables → EditTables → Tables
tables_with n r l e = record {
  version = map version_in n.version.items;
  link = map link_in n.link.items;
  class = map class_in n.class.items;
  asset = map asset_in n.asset.items;
  piece = map piece_in r.piece.items;
  mark = map mark_in r.mark.items;
  ref = map ref_in r.referent.items;
  span = map span_in r.span.items;
  entered = l.entered;
  gone = l.gone;
  edit = e.edit;
  origin = e.origin;
}

-- no row was read first
abbrev pub have_no_first : NamedRows → RouteRows → Bool
have_no_first n r =
    (is_nothing n.version.items && is_nothing n.link.items && is_nothing n.class.items && is_nothing n.asset.items)
    && (is_nothing r.piece.items && is_nothing r.mark.items && is_nothing r.referent.items && is_nothing r.span.items)

abbrev pub have_no_ledgers : LedgerTables → Bool
have_no_ledgers l = is_nothing l.entered && is_nothing l.gone

abbrev pub have_no_edits : EditTables → Bool
have_no_edits e = is_nothing e.edit && is_nothing e.origin

-- the image of what was read in both steps and of these edits; the ledger tells which edit entered an asset
abbrev pub whole_image : Ledgers → List Edit → Image
whole_image l edits = record {
  links = l.first.named.links;
  classes = l.first.named.classes;
  assets = map (with_edit l.entered) l.first.named.assets;
  routes = l.first.routes;
  entered = l.entered;
  gone = l.gone;
  edits = edits;
}

-- this image, if the origins are its own
abbrev pub with_origins : Registers → List OriginRow → Image → Result Image Table
with_origins p rows image =
    read table.Origin (each_sorted origin_before origin_of rows) (λ os. are_origins image.entered image.assets && has_origins p.version image.assets os) >>= (λ os. Ok image)

-- the image of what was read in both steps, and of these edits and origins
abbrev pub image_of_ledgers : Ledgers → EditTables → Result Image Table
image_of_ledgers l e = read table.Edit (edits_of e.edit) (are_edits l.entered l.gone) >>= (λ edits. with_origins l.first e.origin (whole_image l edits))

-- the image of what was read first, and of these rows
abbrev pub image_of_registers : Registers → LedgerTables → EditTables → Result Image Table
image_of_registers p l e =
    read table.Entered (each_sorted part_before part_of l.entered) (are_entered p.named.links p.named.assets) >>= (λ parts.
    read table.Gone (each_sorted gone_before gone_of l.gone) (are_gone p.named.links p.named.assets (route_spans p.routes) parts) >>= (λ gone.
    image_of_ledgers (record { first = p; entered = parts; gone = gone }) e))

-- what a store holds of which this was read first; rows without a version hold no image
abbrev pub content_of_begun : Begun → LedgerTables → EditTables → Result Image Table
content_of_begun begun.Nothing l e = if have_no_ledgers l && have_no_edits e then Ok nothing else Err table.Version
content_of_begun (begun.Read p) l e = image_of_registers p l e

-- ... and of which this was read in both steps
abbrev pub content_of_held : Held → EditTables → Result Image Table
content_of_held held.Nothing e = if have_no_edits e then Ok nothing else Err table.Version
content_of_held (held.Read l) e = image_of_ledgers l e

-- Whatever the other rows are, the store holds what this and they give; or its first unsound table is this.
abbrev pub Begins : NamedRows → RouteRows → Result Begun LoadFault → Type 0
Begins n r (Ok found) = (l : LedgerTables) (e : EditTables) → content_of (tables_with n r l e) ≡ content_of_begun found l e
Begins n r (Err Memory) = ⊤
Begins n r (Err Store) = ⊥
Begins n r (Err (Unsound t)) = (l : LedgerTables) (e : EditTables) → content_of (tables_with n r l e) ≡ Err t

-- the same of the step after it
abbrev pub WithLedgers : Begun → LedgerTables → Result Held LoadFault → Type 0
WithLedgers b l (Ok found) = (e : EditTables) → content_of_begun b l e ≡ content_of_held found e
WithLedgers b l (Err Memory) = ⊤
WithLedgers b l (Err Store) = ⊥
WithLedgers b l (Err (Unsound t)) = (e : EditTables) → content_of_begun b l e ≡ Err t

-- the tables that were read first have passed, as the ledgers' tests ask
pub record HavePassed (p : Registers) : Type 0 where
  pub links : are_links p.named.links ≡ true
  pub assets : are_assets p.named.classes p.named.assets ≡ true
  pub courses : are_courses p.named.links (route_courses p.routes) ≡ true
  pub spans : list_all (fits_route p.named.assets) p.routes ≡ true

abbrev pub HasPassed : Begun → Type 0
HasPassed begun.Nothing = ⊤
HasPassed (begun.Read p) = HavePassed p

-- the assets stand in their order
abbrev pub HasOrder : Held → Type 0
HasOrder held.Nothing = ⊤
HasOrder (held.Read l) = each_two asset_before l.first.named.assets ≡ true
