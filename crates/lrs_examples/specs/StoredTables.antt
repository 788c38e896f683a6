-- The rows of a store after the speed limit is entered, in either version and in any order, and for changes of them the table that is named as unsound.
use Rattle.std.specs.Prelude.{◌≡◌, ℕ, pos, negsuc, ◌+◌, List, [], ◌∷◌, ◌++◌, length, map, reverse, codes, Result, Ok, Err, refl}
use Rattle.std.specs.Fmt.{digits}
use Rattle.std.specs.Char.{encode_utf8}
use Rattle.std.specs.Str.{is_utf8, chars}
use Rattle.lrs_measure.specs.Texts.{Name}
use Rattle.lrs_machine.specs.declared.image.Image.{Image}
use Rattle.lrs_machine.specs.declared.table.Table.{Table}
use Rattle.lrs_machine.specs.declared.table.Table.TheVariants as table
use Rattle.lrs_machine.specs.Lines.{line_of}
use Rattle.lrs_machine.specs.Machine.{Record}
use Rattle.lrs_store_tables.specs.Contents.Tables.{Tables, PieceRow, MarkRow, RefRow, SpanRow, EnteredRow, EditRow, OriginRow}
use Rattle.lrs_store_tables.specs.Contents.Content.{content_of}
use Rattle.lrs_store_tables.specs.Contents.Laws.{brought_up}
use Rattle.lrs_examples.specs.Sheet.{a1, b1, km2, speed, rail, sign, under, sheet, speed_limit, with_speed}
use Rattle.lrs_examples.specs.Images.{speed_image}

-- rows of the route A1, of asset 10 and of the ledgers
abbrev pub piece_row : ℕ → ℕ → ℕ → ℕ → ℕ → PieceRow
piece_row n link a b dir = record { route = a1; n = pos n; link = pos link; a = pos a; b = pos b; dir = pos dir }

abbrev pub mark_row : Name → ℕ → ℕ → ℕ → MarkRow
mark_row route n chainage measure = record { route = route; n = pos n; chainage = pos chainage; measure = pos measure }

abbrev pub ref_row : Name → Name → ℕ → RefRow
ref_row name route place = record { name = name; route = route; place = pos place }

abbrev pub span_row : Name → ℕ → ℕ → SpanRow
span_row route lo hi = record { asset = pos 10; route = route; lo = pos lo; hi = pos hi; side = pos 2 }

abbrev pub entered_row : ℕ → ℕ → ℕ → ℕ → ℕ → EnteredRow
entered_row edit link lo hi side = record { edit = pos edit; asset = pos 10; link = pos link; lo = pos lo; hi = pos hi; side = pos side }

-- accepted commands, numbered from n on
abbrev pub edit_rows : ℕ → List Record → List EditRow
edit_rows n [] = []
edit_rows n (r ∷ rs) = record { number = pos n; token = r.key; line = line_of r.command } ∷ edit_rows (n + 1) rs

abbrev pub pieces : List PieceRow
pieces = piece_row 0 1 0 10 0 ∷ piece_row 1 2 0 6 1 ∷ []

abbrev pub marks : List MarkRow
marks = mark_row a1 0 0 0 ∷ mark_row a1 1 10 12 ∷ mark_row a1 2 16 18 ∷ []

abbrev pub entered_rows : List EnteredRow
entered_rows = entered_row 8 1 5 10 0 ∷ entered_row 8 1 5 10 1 ∷ entered_row 8 2 0 6 0 ∷ entered_row 8 2 0 6 1 ∷ []

-- asset 10 of class SPEED from 5 to 16 on both sides of A1
abbrev pub stored : Tables
stored = record {
  version = pos 1 ∷ [];
  link = record { number = pos 1; length = pos 10 } ∷ record { number = pos 2; length = pos 6 } ∷ record { number = pos 3; length = pos 4 } ∷ [];
  class = record { name = rail; kind = pos 1 } ∷ record { name = sign; kind = pos 0 } ∷ record { name = speed; kind = pos 2 } ∷ [];
  asset = record { number = pos 10; class = speed; value = codes "80"; lateral = pos 0 } ∷ [];
  piece = pieces;
  mark = marks;
  ref = [];
  span = span_row a1 5 16 ∷ [];
  entered = entered_rows;
  gone = [];
  edit = edit_rows 1 with_speed;
  origin = [];
}

-- The rows are those of the image.
pub stored_image : content_of stored ≡ Ok speed_image
unfolding digits content_of is_utf8 chars encode_utf8
stored_image = refl

-- The same in version 2, which tells the edit that entered each asset.
abbrev pub origin_row : ℕ → ℕ → OriginRow
origin_row asset edit = record { asset = pos asset; edit = pos edit }

abbrev pub second_version : Tables
second_version = record stored { version = pos 2 ∷ []; origin = origin_row 10 8 ∷ [] }

-- Brought up to version 2, the store has these rows.
pub stored_brought_up : brought_up speed_image.assets stored ≡ second_version
unfolding digits
stored_brought_up = refl

-- They are those of the same image.
pub second_version_image : content_of second_version ≡ Ok speed_image
unfolding digits content_of is_utf8 chars encode_utf8
second_version_image = refl

-- Every table from its last row to its first.
abbrev pub from_the_last : Tables → Tables
from_the_last t = record {
  version = t.version;
  link = reverse t.link;
  class = reverse t.class;
  asset = reverse t.asset;
  piece = reverse t.piece;
  mark = reverse t.mark;
  ref = reverse t.ref;
  span = reverse t.span;
  entered = reverse t.entered;
  gone = reverse t.gone;
  edit = reverse t.edit;
  origin = reverse t.origin;
}

-- The order of the rows is of no matter.
pub image_from_the_last : content_of (from_the_last stored) ≡ Ok speed_image
unfolding digits content_of is_utf8 chars encode_utf8
image_from_the_last = refl

-- With a second speed limit over the start of the route, two routes, and two referents.
abbrev pub more : Tables
more = record second_version {
  asset = record { number = pos 11; class = speed; value = codes "60"; lateral = pos 0 } ∷ second_version.asset;
  piece = record (piece_row 1 1 4 5 0) { route = b1 } ∷ piece_row 1 2 0 6 1 ∷ record (piece_row 0 3 0 4 0) { route = b1 } ∷ piece_row 0 1 0 4 0 ∷ [];
  mark = mark_row b1 1 5 5 ∷ mark_row a1 1 10 10 ∷ mark_row b1 0 0 0 ∷ mark_row a1 0 0 0 ∷ [];
  ref = ref_row (codes "KM5") b1 4 ∷ ref_row km2 b1 0 ∷ [];
  span = span_row a1 4 10 ∷ record (span_row b1 0 4) { asset = pos 11 } ∷ [];
  entered = record (entered_row 7 3 0 4 1) { asset = pos 11 } ∷ entered_row 8 2 0 6 1 ∷ record (entered_row 7 3 0 4 0) { asset = pos 11 } ∷ entered_row 8 2 0 6 0 ∷ [];
  origin = origin_row 11 7 ∷ origin_row 10 8 ∷ [];
}

-- what a store holds, shortly: its links, the routes with the numbers of their marks, referents and spans, and each asset with its edit
abbrev pub names_and_entries : Result Image Table → Result (List (Name × ℕ × ℕ × ℕ) × List (ℕ × ℕ)) Table
names_and_entries (Ok i) = Ok (map (λ e. (e.route.name, length e.route.marks, length e.route.refs, length e.spans)) i.routes, map (λ a. (a.number, a.entered_by)) i.assets)
names_and_entries (Err t) = Err t

-- Rows of two routes and two assets, among each other, are put in order.
pub more_is_read : names_and_entries (content_of more) ≡ Ok ((a1, 2, 0, 1) ∷ (b1, 2, 2, 1) ∷ [], (10, 8) ∷ (11, 7) ∷ [])
unfolding digits content_of is_utf8 chars encode_utf8
more_is_read = refl

-- A change of the rows makes this table the first unsound one.
abbrev pub MakesUnsound : Tables → Table → Type 0
MakesUnsound changed first = content_of changed ≡ Err first

-- a later version; none beside other rows; two
abbrev pub UnsoundVersions : Type 0
UnsoundVersions = MakesUnsound (record stored { version = pos 7 ∷ [] }) table.Version × MakesUnsound (record stored { version = [] }) table.Version
    × MakesUnsound (record stored { version = pos 1 ∷ pos 1 ∷ [] }) table.Version

-- a link without length, one whose number is negative, and one that is there twice
abbrev pub UnsoundLinks : Type 0
UnsoundLinks = MakesUnsound (record stored { link = stored.link ++ record { number = pos 4; length = pos 0 } ∷ [] }) table.Link
    × MakesUnsound (record stored { link = record { number = negsuc 0; length = pos 1 } ∷ stored.link }) table.Link
    × MakesUnsound (record stored { link = record { number = pos 2; length = pos 6 } ∷ stored.link }) table.Link

-- a kind that is none, and a name with a small letter
abbrev pub UnsoundClasses : Type 0
UnsoundClasses = MakesUnsound (record stored { class = record { name = sign; kind = pos 3 } ∷ [] }) table.Class
    × MakesUnsound (record stored { class = record { name = codes "sign"; kind = pos 0 } ∷ [] }) table.Class

-- a lateral offset above its limit, one of more than 32 bits, an unknown class, and an asset twice
abbrev pub UnsoundAssets : Type 0
UnsoundAssets = MakesUnsound (record stored { asset = record { number = pos 10; class = speed; value = codes "80"; lateral = pos 100001 } ∷ [] }) table.Asset
    × MakesUnsound (record stored { asset = record { number = pos 10; class = codes "TREE"; value = codes "80"; lateral = pos 0 } ∷ [] }) table.Asset
    × MakesUnsound (record stored { asset = record { number = pos 10; class = speed; value = codes "80"; lateral = pos 4_294_967_296 } ∷ [] }) table.Asset
    × MakesUnsound (record stored { asset = stored.asset ++ stored.asset }) table.Asset

-- a number that is left out; a number twice; a name with a small letter; more pieces than the course needs; ground twice; beyond the end of a link
abbrev pub UnsoundPieces : Type 0
UnsoundPieces = MakesUnsound (record stored { piece = piece_row 0 1 0 10 0 ∷ piece_row 2 2 0 6 1 ∷ [] }) table.Piece
    × MakesUnsound (record stored { piece = piece_row 0 1 0 10 0 ∷ piece_row 0 2 0 6 1 ∷ [] }) table.Piece
    × MakesUnsound (record stored { piece = record (piece_row 0 3 0 4 0) { route = codes "b1" } ∷ pieces }) table.Piece
    × MakesUnsound (record stored { piece = piece_row 0 1 0 5 0 ∷ piece_row 1 1 5 10 0 ∷ piece_row 2 2 0 6 1 ∷ [] }) table.Piece
    × MakesUnsound (record stored { piece = piece_row 0 1 0 10 0 ∷ piece_row 1 1 4 10 1 ∷ [] }) table.Piece
    × MakesUnsound (record stored { piece = piece_row 0 1 0 10 0 ∷ piece_row 1 2 0 7 1 ∷ [] }) table.Piece

-- a last mark before the end, a mark of no route, and a number twice
abbrev pub UnsoundMarks : Type 0
UnsoundMarks = MakesUnsound (record stored { mark = mark_row a1 0 0 0 ∷ mark_row a1 1 10 12 ∷ mark_row a1 2 15 18 ∷ [] }) table.Mark
    × MakesUnsound (record stored { mark = marks ++ mark_row b1 0 0 0 ∷ [] }) table.Mark
    × MakesUnsound (record stored { mark = mark_row a1 1 10 12 ∷ marks }) table.Mark

-- a referent beyond the end, one of no route, and one name twice
abbrev pub UnsoundReferents : Type 0
UnsoundReferents = MakesUnsound (record stored { ref = ref_row km2 a1 16 ∷ [] }) table.Ref × MakesUnsound (record stored { ref = ref_row km2 b1 0 ∷ [] }) table.Ref
    × MakesUnsound (record stored { ref = ref_row km2 a1 3 ∷ ref_row km2 a1 5 ∷ [] }) table.Ref

-- a second row over the same millimetres; two rows in the place of one; beyond the end; on no route
abbrev pub UnsoundSpans : Type 0
UnsoundSpans = MakesUnsound (record stored { span = span_row a1 5 16 ∷ span_row a1 14 16 ∷ [] }) table.Span
    × MakesUnsound (record stored { span = span_row a1 5 8 ∷ span_row a1 8 16 ∷ [] }) table.Span
    × MakesUnsound (record stored { span = span_row a1 5 17 ∷ [] }) table.Span
    × MakesUnsound (record stored { span = span_row b1 5 16 ∷ [] }) table.Span

-- beyond the end of a link, a pair twice, and a negative edit
abbrev pub UnsoundEntered : Type 0
UnsoundEntered = MakesUnsound (record stored { entered = entered_row 8 1 5 11 0 ∷ entered_row 8 1 5 10 1 ∷ entered_row 8 2 0 6 0 ∷ entered_row 8 2 0 6 1 ∷ [] }) table.Entered
    × MakesUnsound (record stored { entered = entered_row 7 1 9 10 0 ∷ entered_rows }) table.Entered
    × MakesUnsound (record stored { entered = record (entered_row 8 3 0 4 0) { edit = negsuc 0 } ∷ entered_rows }) table.Entered

-- held and never entered; gone and never entered; gone and still held; by a negative edit
abbrev pub UnsoundGone : Type 0
UnsoundGone = MakesUnsound (record stored { entered = [] }) table.Gone
    × MakesUnsound (record stored { gone = record { cause = pos 0; row = entered_row 9 1 0 1 0 } ∷ [] }) table.Gone
    × MakesUnsound (record stored { gone = record { cause = pos 1; row = entered_row 9 1 5 10 0 } ∷ [] }) table.Gone
    × MakesUnsound (record stored { gone = record { cause = pos 1; row = record (entered_row 9 1 5 10 0) { edit = negsuc 8 } } ∷ [] }) table.Gone

-- an edit that the ledger names is not there; a key twice; numbers from 0; a number twice; a line that is no UTF-8
abbrev pub UnsoundEdits : Type 0
UnsoundEdits = MakesUnsound (record stored { edit = edit_rows 1 sheet }) table.Edit
    × MakesUnsound (record stored { edit = edit_rows 1 (with_speed ++ sheet) }) table.Edit
    × MakesUnsound (record stored { edit = edit_rows 0 with_speed }) table.Edit
    × MakesUnsound (record stored { edit = edit_rows 8 (under (codes "Z") speed_limit ∷ []) ++ edit_rows 1 with_speed }) table.Edit
    × MakesUnsound (record stored { edit = record { number = pos 9; token = codes "Z"; line = 255 ∷ [] } ∷ edit_rows 1 with_speed }) table.Edit

-- in version 1 a row; in version 2 none, another edit, one more, and one twice
abbrev pub UnsoundOrigins : Type 0
UnsoundOrigins = MakesUnsound (record second_version { version = pos 1 ∷ [] }) table.Origin
    × MakesUnsound (record second_version { origin = [] }) table.Origin
    × MakesUnsound (record second_version { origin = origin_row 10 7 ∷ [] }) table.Origin
    × MakesUnsound (record second_version { origin = origin_row 10 8 ∷ origin_row 11 8 ∷ [] }) table.Origin
    × MakesUnsound (record second_version { origin = origin_row 10 8 ∷ origin_row 10 8 ∷ [] }) table.Origin

-- in either version an asset that was never entered; one that two edits entered
abbrev pub never_held : Tables → Tables
never_held t = record t { asset = record { number = pos 11; class = speed; value = codes "80"; lateral = pos 0 } ∷ t.asset }

abbrev pub by_two_edits : Tables → Tables
by_two_edits t = record t { entered = entered_row 7 1 5 10 0 ∷ entered_row 8 1 5 10 1 ∷ entered_row 8 2 0 6 0 ∷ entered_row 8 2 0 6 1 ∷ [] }

abbrev pub UnsoundEntries : Type 0
UnsoundEntries = MakesUnsound (never_held stored) table.Origin × MakesUnsound (never_held second_version) table.Origin
    × MakesUnsound (by_two_edits stored) table.Origin × MakesUnsound (by_two_edits second_version) table.Origin

-- each table by itself
abbrev pub NamedTables : Type 0
NamedTables = UnsoundVersions × UnsoundLinks × UnsoundClasses × UnsoundAssets × UnsoundPieces × UnsoundMarks × UnsoundReferents × UnsoundSpans × UnsoundEntered × UnsoundGone × UnsoundEdits × UnsoundOrigins × UnsoundEntries
