-- The tables of a store, as SQL defines them and as their definitions are read. The rows of eight entries are put by one statement a table.
use Rattle.std.specs.Prelude.{true, false, [], ◌∷◌, None, Some, Option, codes, List, ℕ}
use Rattle.sqlite_value.specs.declared.value.Value.TheVariants.{Null}
use Rattle.sqlite_value.specs.declared.keys.Order.{Order}
use Rattle.sqlite_value.specs.declared.keys.Collation.TheVariants.{Binary}
use Rattle.sqlite_value.specs.Keys.{plain}
use Rattle.sqlite_schema.specs.declared.schema.Kind.TheVariants.{Integer, Text}
use Rattle.sqlite_schema.specs.declared.schema.Column.{Column}
use Rattle.sqlite_schema.specs.declared.schema.Table.{Table}
use Rattle.sqlite_schema.specs.declared.schema.Reference.{Reference}
use Rattle.sqlite_schema.specs.declared.schema.Schema.{Schema}
use Rattle.sqlite_schema.specs.declared.schema.Action.TheVariants.{NoAction}
use Rattle.sqlite_catalog.specs.Listing.{automatic}

-- INTEGER NOT NULL
abbrev pub whole : List ℕ → Column
whole name = record { name = name; kind = Integer; is_strict = true; not_null = true; default = Null; collation = Binary }

-- TEXT NOT NULL
abbrev pub words : List ℕ → Column
words name = record { name = name; kind = Text; is_strict = true; not_null = true; default = Null; collation = Binary }

-- a strict table with keys and references and nothing else
abbrev pub table : List ℕ → ℕ → Option ℕ → List ℕ → List (List ℕ) → List Order → List Reference → List Column → Table
table name tree key primary uniques orders references columns = record {
  name = name;
  tree = tree;
  columns = columns;
  key = key;
  primary = primary;
  uniques = uniques;
  orders = orders;
  checks = [];
  references = references;
  computed = [];
  stamps = record { places = []; terms = []; formats = [] };
  is_counted = false;
}

-- a column that refers to the key of a table
abbrev pub refers : ℕ → List ℕ → Reference
refers place parent = record { columns = place ∷ []; parent = parent; parent_columns = []; on_delete = NoAction; on_update = NoAction; is_deferred = false }

abbrev pub version_table : Table
version_table = table (codes "version") 0 (Some 0) (0 ∷ []) [] [] [] (whole (codes "v") ∷ [])

abbrev pub create_version : List ℕ
create_version = codes "CREATE TABLE version (v INTEGER NOT NULL, PRIMARY KEY (v)) STRICT"

abbrev pub insert_version : List ℕ
insert_version = codes "INSERT INTO version VALUES (?1)"

abbrev pub select_version : List ℕ
select_version = codes "SELECT v FROM version"

abbrev pub link_table : Table
link_table = table (codes "link") 1 (Some 0) (0 ∷ []) [] [] [] (whole (codes "number") ∷ whole (codes "length") ∷ [])

abbrev pub create_link : List ℕ
create_link = codes "CREATE TABLE link (number INTEGER NOT NULL, length INTEGER NOT NULL, PRIMARY KEY (number)) STRICT"

abbrev pub insert_link : List ℕ
insert_link = codes "INSERT INTO link VALUES (?1, ?2)"

abbrev pub select_link : List ℕ
select_link = codes "SELECT number, length FROM link"

abbrev pub class_table : Table
class_table = table (codes "class") 2 None (1 ∷ []) ((1 ∷ []) ∷ []) (plain ∷ []) [] (words (codes "name") ∷ whole (codes "kind") ∷ [])

abbrev pub create_class : List ℕ
create_class = codes "CREATE TABLE class (name TEXT NOT NULL, kind INTEGER NOT NULL, PRIMARY KEY (name)) STRICT"

abbrev pub insert_class : List ℕ
insert_class = codes "INSERT INTO class VALUES (?1, ?2)"

abbrev pub select_class : List ℕ
select_class = codes "SELECT name, kind FROM class"

abbrev pub asset_table : Table
asset_table = table (codes "asset") 4 (Some 0) (0 ∷ []) [] [] (refers 2 (codes "class") ∷ []) (whole (codes "number") ∷ words (codes "class") ∷ words (codes "value") ∷ whole (codes "lateral") ∷ [])

abbrev pub create_asset : List ℕ
create_asset = codes "CREATE TABLE asset (number INTEGER NOT NULL, class TEXT NOT NULL REFERENCES class, value TEXT NOT NULL, lateral INTEGER NOT NULL, PRIMARY KEY (number)) STRICT"

abbrev pub insert_asset : List ℕ
insert_asset = codes "INSERT INTO asset VALUES (?1, ?2, ?3, ?4)"

abbrev pub insert_eight_assets : List ℕ
insert_eight_assets = codes "INSERT INTO asset VALUES (?1, ?2, ?3, ?4), (?5, ?6, ?7, ?8), (?9, ?10, ?11, ?12), (?13, ?14, ?15, ?16), (?17, ?18, ?19, ?20), (?21, ?22, ?23, ?24), (?25, ?26, ?27, ?28), (?29, ?30, ?31, ?32)"

abbrev pub select_asset : List ℕ
select_asset = codes "SELECT number, class, value, lateral FROM asset"

abbrev pub piece_table : Table
piece_table = table (codes "piece") 5 None (1 ∷ 2 ∷ []) ((1 ∷ 2 ∷ []) ∷ []) (plain ∷ []) (refers 3 (codes "link") ∷ []) (words (codes "route") ∷ whole (codes "n") ∷ whole (codes "link") ∷ whole (codes "a") ∷ whole (codes "b") ∷ whole (codes "dir") ∷ [])

abbrev pub create_piece : List ℕ
create_piece = codes "CREATE TABLE piece (route TEXT NOT NULL, n INTEGER NOT NULL, link INTEGER NOT NULL REFERENCES link, a INTEGER NOT NULL, b INTEGER NOT NULL, dir INTEGER NOT NULL, PRIMARY KEY (route, n)) STRICT"

abbrev pub insert_piece : List ℕ
insert_piece = codes "INSERT INTO piece VALUES (?1, ?2, ?3, ?4, ?5, ?6)"

abbrev pub select_piece : List ℕ
select_piece = codes "SELECT route, n, link, a, b, dir FROM piece"

abbrev pub mark_table : Table
mark_table = table (codes "mark") 7 None (1 ∷ 2 ∷ []) ((1 ∷ 2 ∷ []) ∷ []) (plain ∷ []) [] (words (codes "route") ∷ whole (codes "n") ∷ whole (codes "chainage") ∷ whole (codes "measure") ∷ [])

abbrev pub create_mark : List ℕ
create_mark = codes "CREATE TABLE mark (route TEXT NOT NULL, n INTEGER NOT NULL, chainage INTEGER NOT NULL, measure INTEGER NOT NULL, PRIMARY KEY (route, n)) STRICT"

abbrev pub insert_mark : List ℕ
insert_mark = codes "INSERT INTO mark VALUES (?1, ?2, ?3, ?4)"

abbrev pub select_mark : List ℕ
select_mark = codes "SELECT route, n, chainage, measure FROM mark"

abbrev pub ref_table : Table
ref_table = table (codes "ref") 9 None (1 ∷ []) ((1 ∷ []) ∷ []) (plain ∷ []) [] (words (codes "name") ∷ words (codes "route") ∷ whole (codes "place") ∷ [])

abbrev pub create_ref : List ℕ
create_ref = codes "CREATE TABLE ref (name TEXT NOT NULL, route TEXT NOT NULL, place INTEGER NOT NULL, PRIMARY KEY (name)) STRICT"

abbrev pub insert_ref : List ℕ
insert_ref = codes "INSERT INTO ref VALUES (?1, ?2, ?3)"

abbrev pub select_ref : List ℕ
select_ref = codes "SELECT name, route, place FROM ref"

abbrev pub span_table : Table
span_table = table (codes "span") 11 None (1 ∷ 2 ∷ 3 ∷ []) ((1 ∷ 2 ∷ 3 ∷ []) ∷ []) (plain ∷ []) (refers 1 (codes "asset") ∷ []) (whole (codes "asset") ∷ words (codes "route") ∷ whole (codes "lo") ∷ whole (codes "hi") ∷ whole (codes "side") ∷ [])

abbrev pub create_span : List ℕ
create_span = codes "CREATE TABLE span (asset INTEGER NOT NULL REFERENCES asset, route TEXT NOT NULL, lo INTEGER NOT NULL, hi INTEGER NOT NULL, side INTEGER NOT NULL, PRIMARY KEY (asset, route, lo)) STRICT"

abbrev pub insert_span : List ℕ
insert_span = codes "INSERT INTO span VALUES (?1, ?2, ?3, ?4, ?5)"

abbrev pub insert_eight_spans : List ℕ
insert_eight_spans = codes "INSERT INTO span VALUES (?1, ?2, ?3, ?4, ?5), (?6, ?7, ?8, ?9, ?10), (?11, ?12, ?13, ?14, ?15), (?16, ?17, ?18, ?19, ?20), (?21, ?22, ?23, ?24, ?25), (?26, ?27, ?28, ?29, ?30), (?31, ?32, ?33, ?34, ?35), (?36, ?37, ?38, ?39, ?40)"

abbrev pub select_span : List ℕ
select_span = codes "SELECT asset, route, lo, hi, side FROM span"

abbrev pub entered_table : Table
entered_table = table (codes "entered") 13 None (1 ∷ 2 ∷ 3 ∷ 4 ∷ 6 ∷ []) ((1 ∷ 2 ∷ 3 ∷ 4 ∷ 6 ∷ []) ∷ []) (plain ∷ []) [] (whole (codes "edit") ∷ whole (codes "asset") ∷ whole (codes "link") ∷ whole (codes "lo") ∷ whole (codes "hi") ∷ whole (codes "side") ∷ [])

abbrev pub create_entered : List ℕ
create_entered = codes "CREATE TABLE entered (edit INTEGER NOT NULL, asset INTEGER NOT NULL, link INTEGER NOT NULL, lo INTEGER NOT NULL, hi INTEGER NOT NULL, side INTEGER NOT NULL, PRIMARY KEY (edit, asset, link, lo, side)) STRICT"

abbrev pub insert_entered : List ℕ
insert_entered = codes "INSERT INTO entered VALUES (?1, ?2, ?3, ?4, ?5, ?6)"

abbrev pub insert_eight_entered : List ℕ
insert_eight_entered = codes "INSERT INTO entered VALUES (?1, ?2, ?3, ?4, ?5, ?6), (?7, ?8, ?9, ?10, ?11, ?12), (?13, ?14, ?15, ?16, ?17, ?18), (?19, ?20, ?21, ?22, ?23, ?24), (?25, ?26, ?27, ?28, ?29, ?30), (?31, ?32, ?33, ?34, ?35, ?36), (?37, ?38, ?39, ?40, ?41, ?42), (?43, ?44, ?45, ?46, ?47, ?48)"

abbrev pub select_entered : List ℕ
select_entered = codes "SELECT edit, asset, link, lo, hi, side FROM entered"

abbrev pub gone_table : Table
gone_table = table (codes "gone") 15 None (1 ∷ 2 ∷ 3 ∷ 4 ∷ 5 ∷ 7 ∷ []) ((1 ∷ 2 ∷ 3 ∷ 4 ∷ 5 ∷ 7 ∷ []) ∷ []) (plain ∷ []) [] (whole (codes "edit") ∷ whole (codes "cause") ∷ whole (codes "asset") ∷ whole (codes "link") ∷ whole (codes "lo") ∷ whole (codes "hi") ∷ whole (codes "side") ∷ [])

abbrev pub create_gone : List ℕ
create_gone = codes "CREATE TABLE gone (edit INTEGER NOT NULL, cause INTEGER NOT NULL, asset INTEGER NOT NULL, link INTEGER NOT NULL, lo INTEGER NOT NULL, hi INTEGER NOT NULL, side INTEGER NOT NULL, PRIMARY KEY (edit, cause, asset, link, lo, side)) STRICT"

abbrev pub insert_gone : List ℕ
insert_gone = codes "INSERT INTO gone VALUES (?1, ?2, ?3, ?4, ?5, ?6, ?7)"

abbrev pub select_gone : List ℕ
select_gone = codes "SELECT edit, cause, asset, link, lo, hi, side FROM gone"

abbrev pub edit_table : Table
edit_table = table (codes "edit") 17 (Some 0) (0 ∷ []) ((2 ∷ []) ∷ []) (plain ∷ []) [] (whole (codes "number") ∷ words (codes "token") ∷ words (codes "line") ∷ [])

abbrev pub create_edit : List ℕ
create_edit = codes "CREATE TABLE edit (number INTEGER NOT NULL, token TEXT NOT NULL UNIQUE, line TEXT NOT NULL, PRIMARY KEY (number)) STRICT"

abbrev pub insert_edit : List ℕ
insert_edit = codes "INSERT INTO edit VALUES (?1, ?2, ?3)"

abbrev pub insert_eight_edits : List ℕ
insert_eight_edits = codes "INSERT INTO edit VALUES (?1, ?2, ?3), (?4, ?5, ?6), (?7, ?8, ?9), (?10, ?11, ?12), (?13, ?14, ?15), (?16, ?17, ?18), (?19, ?20, ?21), (?22, ?23, ?24)"

abbrev pub select_edit : List ℕ
select_edit = codes "SELECT number, token, line FROM edit"

abbrev pub origin_table : Table
origin_table = table (codes "origin") 19 (Some 0) (0 ∷ []) [] [] (refers 0 (codes "asset") ∷ []) (whole (codes "asset") ∷ whole (codes "edit") ∷ [])

abbrev pub create_origin : List ℕ
create_origin = codes "CREATE TABLE origin (asset INTEGER NOT NULL REFERENCES asset, edit INTEGER NOT NULL, PRIMARY KEY (asset)) STRICT"

abbrev pub insert_origin : List ℕ
insert_origin = codes "INSERT INTO origin VALUES (?1, ?2)"

abbrev pub insert_eight_origins : List ℕ
insert_eight_origins = codes "INSERT INTO origin VALUES (?1, ?2), (?3, ?4), (?5, ?6), (?7, ?8), (?9, ?10), (?11, ?12), (?13, ?14), (?15, ?16)"

abbrev pub select_origin : List ℕ
select_origin = codes "SELECT asset, edit FROM origin"

-- the rows of a route go, or get its new name

abbrev pub drop_piece : List ℕ
drop_piece = codes "DELETE FROM piece WHERE route = ?1"

abbrev pub rename_piece : List ℕ
rename_piece = codes "UPDATE piece SET route = ?2 WHERE route = ?1"

abbrev pub drop_mark : List ℕ
drop_mark = codes "DELETE FROM mark WHERE route = ?1"

abbrev pub rename_mark : List ℕ
rename_mark = codes "UPDATE mark SET route = ?2 WHERE route = ?1"

-- all rows of a table go

abbrev pub clear_version : List ℕ
clear_version = codes "DELETE FROM version"

abbrev pub clear_origin : List ℕ
clear_origin = codes "DELETE FROM origin"

-- one row goes, or gets the new name of its route, by its key

abbrev pub take_ref : List ℕ
take_ref = codes "DELETE FROM ref WHERE name = ?1"

abbrev pub rename_ref : List ℕ
rename_ref = codes "UPDATE ref SET route = ?3 WHERE name = ?1 AND route = ?2"

abbrev pub take_span : List ℕ
take_span = codes "DELETE FROM span WHERE asset = ?1 AND route = ?2 AND lo = ?3"

abbrev pub rename_span : List ℕ
rename_span = codes "UPDATE span SET route = ?4 WHERE asset = ?1 AND route = ?2 AND lo = ?3"

-- all tables, and the index that each key without a number of its own has
abbrev pub inventory : Schema
inventory = record { tables = version_table ∷ link_table ∷ class_table ∷ asset_table ∷ piece_table ∷ mark_table ∷ ref_table ∷ span_table ∷ entered_table ∷ gone_table ∷ edit_table ∷ origin_table ∷ []; indexes = automatic class_table 0 (1 ∷ []) 3 ∷ automatic piece_table 0 (1 ∷ 2 ∷ []) 6 ∷ automatic mark_table 0 (1 ∷ 2 ∷ []) 8 ∷ automatic ref_table 0 (1 ∷ []) 10 ∷ automatic span_table 0 (1 ∷ 2 ∷ 3 ∷ []) 12 ∷ automatic entered_table 0 (1 ∷ 2 ∷ 3 ∷ 4 ∷ 6 ∷ []) 14 ∷ automatic gone_table 0 (1 ∷ 2 ∷ 3 ∷ 4 ∷ 5 ∷ 7 ∷ []) 16 ∷ automatic edit_table 0 (2 ∷ []) 18 ∷ []; views = [] }
