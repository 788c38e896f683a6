-- What an INSERT of one row makes of the rows of a store, table by table.
use Rattle.std.proofs.Common.{ℕ, ℤ, [], ◌∷◌, Some, None, Ok, refl, codes}
use Rattle.std.proofs.lemmas.List.Sorted.{IsPermutation-map}
use Rattle.sqlite_value.specs.declared.value.Value.TheVariants.{Null, Int, Text}
use Rattle.sqlite_value.specs.Keys.{plain}
use Rattle.sqlite_sql.specs.Term.{lit, col}
use Rattle.sqlite.specs.State.{State, ExecutesInside}
use Rattle.lrs_store_tables.specs.Contents.Tables.{LinkRow, ClassRow, AssetRow, PieceRow, MarkRow, RefRow, SpanRow, EnteredRow, GoneRow, EditRow, OriginRow}
use Rattle.lrs_store_tables.specs.Schema.{whole, words, refers}
use Rattle.lrs_store_tables.specs.Schema as it
use Rattle.lrs_store_tables.specs.Cells.{version_cells, link_cells, class_cells, asset_cells, piece_cells, mark_cells, ref_cells, span_cells, entered_cells, gone_cells, edit_cells, origin_cells}
use Rattle.lrs_store_tables.specs.StoredRows as stored
use Rattle.lrs_store_tables.specs.StoredRows.{IsWriting, Makes}
use Rattle.lrs_store_tables.proofs.InsertStatements as statement
use Rattle.lrs_store_tables.proofs.Inserting.{adds_row}
use Rattle.lrs_store_tables.proofs.Only as only

pub version_added : (r : ℤ) (old new : State) (count : ℕ) → IsWriting old → ExecutesInside 0 it.insert_version (version_cells r) old new (Ok count) → Makes (λ t. record t { version = r ∷ t.version }) old new
version_added r old new count writing h =
    let it = adds_row 0 (codes "version") 0 (Some 0) (0 ∷ []) [] [] [] (whole (codes "v") ∷ []) refl
    it.insert_version (version_cells r) (col 0 0 ∷ lit Null ∷ []) 2 (Int r) (Null ∷ []) stored.version_places (version_cells r) statement.insert_version_is.0 statement.insert_version_is.1 refl refl refl (λ rows. refl) (λ rows. refl) old new count writing h in
    record { writing = it.writing; was_open = λ opened. it.was_open; rows = only.only_version old.now.trees new.now.trees it.others (λ rows. r ∷ rows) (IsPermutation-map stored.version_in _ _ it.rows) }

pub link_added : (r : LinkRow) (old new : State) (count : ℕ) → IsWriting old → ExecutesInside 0 it.insert_link (link_cells r) old new (Ok count) → Makes (λ t. record t { link = r ∷ t.link }) old new
link_added r old new count writing h =
    let it = adds_row 1 (codes "link") 1 (Some 0) (0 ∷ []) [] [] [] (whole (codes "number") ∷ whole (codes "length") ∷ []) refl
    it.insert_link (link_cells r) (col 0 0 ∷ lit Null ∷ col 0 1 ∷ []) 3 (Int r.number) (Null ∷ Int r.length ∷ []) stored.link_places (link_cells r) statement.insert_link_is.0 statement.insert_link_is.1 refl refl refl (λ rows. refl) (λ rows. refl) old new count writing h in
    record { writing = it.writing; was_open = λ opened. it.was_open; rows = only.only_link old.now.trees new.now.trees it.others (λ rows. r ∷ rows) (IsPermutation-map stored.link_in _ _ it.rows) }

pub class_added : (r : ClassRow) (old new : State) (count : ℕ) → IsWriting old → ExecutesInside 0 it.insert_class (class_cells r) old new (Ok count) → Makes (λ t. record t { class = r ∷ t.class }) old new
class_added r old new count writing h =
    let it = adds_row 2 (codes "class") 2 None (1 ∷ []) ((1 ∷ []) ∷ []) (plain ∷ []) [] (words (codes "name") ∷ whole (codes "kind") ∷ []) refl
    it.insert_class (class_cells r) (lit Null ∷ col 0 0 ∷ col 0 1 ∷ []) 3 (Null) (Text r.name ∷ Int r.kind ∷ []) stored.class_places (class_cells r) statement.insert_class_is.0 statement.insert_class_is.1 refl refl refl (λ rows. refl) (λ rows. refl) old new count writing h in
    record { writing = it.writing; was_open = λ opened. it.was_open; rows = only.only_class old.now.trees new.now.trees it.others (λ rows. r ∷ rows) (IsPermutation-map stored.class_in _ _ it.rows) }

pub asset_added : (r : AssetRow) (old new : State) (count : ℕ) → IsWriting old → ExecutesInside 0 it.insert_asset (asset_cells r) old new (Ok count) → Makes (λ t. record t { asset = r ∷ t.asset }) old new
asset_added r old new count writing h =
    let it = adds_row 3 (codes "asset") 4 (Some 0) (0 ∷ []) [] [] (refers 2 (codes "class") ∷ []) (whole (codes "number") ∷ words (codes "class") ∷ words (codes "value") ∷ whole (codes "lateral") ∷ []) refl
    it.insert_asset (asset_cells r) (col 0 0 ∷ lit Null ∷ col 0 1 ∷ col 0 2 ∷ col 0 3 ∷ []) 5 (Int r.number) (Null ∷ Text r.class ∷ Text r.value ∷ Int r.lateral ∷ []) stored.asset_places (asset_cells r) statement.insert_asset_is.0 statement.insert_asset_is.1 refl refl refl (λ rows. refl) (λ rows. refl) old new count writing h in
    record { writing = it.writing; was_open = λ opened. it.was_open; rows = only.only_asset old.now.trees new.now.trees it.others (λ rows. r ∷ rows) (IsPermutation-map stored.asset_in _ _ it.rows) }

pub piece_added : (r : PieceRow) (old new : State) (count : ℕ) → IsWriting old → ExecutesInside 0 it.insert_piece (piece_cells r) old new (Ok count) → Makes (λ t. record t { piece = r ∷ t.piece }) old new
piece_added r old new count writing h =
    let it = adds_row 4 (codes "piece") 5 None (1 ∷ 2 ∷ []) ((1 ∷ 2 ∷ []) ∷ []) (plain ∷ []) (refers 3 (codes "link") ∷ []) (words (codes "route") ∷ whole (codes "n") ∷ whole (codes "link") ∷ whole (codes "a") ∷ whole (codes "b") ∷ whole (codes "dir") ∷ []) refl
    it.insert_piece (piece_cells r) (lit Null ∷ col 0 0 ∷ col 0 1 ∷ col 0 2 ∷ col 0 3 ∷ col 0 4 ∷ col 0 5 ∷ []) 7 (Null) (Text r.route ∷ Int r.n ∷ Int r.link ∷ Int r.a ∷ Int r.b ∷ Int r.dir ∷ []) stored.piece_places (piece_cells r) statement.insert_piece_is.0 statement.insert_piece_is.1 refl refl refl (λ rows. refl) (λ rows. refl) old new count writing h in
    record { writing = it.writing; was_open = λ opened. it.was_open; rows = only.only_piece old.now.trees new.now.trees it.others (λ rows. r ∷ rows) (IsPermutation-map stored.piece_in _ _ it.rows) }

pub mark_added : (r : MarkRow) (old new : State) (count : ℕ) → IsWriting old → ExecutesInside 0 it.insert_mark (mark_cells r) old new (Ok count) → Makes (λ t. record t { mark = r ∷ t.mark }) old new
mark_added r old new count writing h =
    let it = adds_row 5 (codes "mark") 7 None (1 ∷ 2 ∷ []) ((1 ∷ 2 ∷ []) ∷ []) (plain ∷ []) [] (words (codes "route") ∷ whole (codes "n") ∷ whole (codes "chainage") ∷ whole (codes "measure") ∷ []) refl
    it.insert_mark (mark_cells r) (lit Null ∷ col 0 0 ∷ col 0 1 ∷ col 0 2 ∷ col 0 3 ∷ []) 5 (Null) (Text r.route ∷ Int r.n ∷ Int r.chainage ∷ Int r.measure ∷ []) stored.mark_places (mark_cells r) statement.insert_mark_is.0 statement.insert_mark_is.1 refl refl refl (λ rows. refl) (λ rows. refl) old new count writing h in
    record { writing = it.writing; was_open = λ opened. it.was_open; rows = only.only_mark old.now.trees new.now.trees it.others (λ rows. r ∷ rows) (IsPermutation-map stored.mark_in _ _ it.rows) }

pub ref_added : (r : RefRow) (old new : State) (count : ℕ) → IsWriting old → ExecutesInside 0 it.insert_ref (ref_cells r) old new (Ok count) → Makes (λ t. record t { ref = r ∷ t.ref }) old new
ref_added r old new count writing h =
    let it = adds_row 6 (codes "ref") 9 None (1 ∷ []) ((1 ∷ []) ∷ []) (plain ∷ []) [] (words (codes "name") ∷ words (codes "route") ∷ whole (codes "place") ∷ []) refl
    it.insert_ref (ref_cells r) (lit Null ∷ col 0 0 ∷ col 0 1 ∷ col 0 2 ∷ []) 4 (Null) (Text r.name ∷ Text r.route ∷ Int r.place ∷ []) stored.ref_places (ref_cells r) statement.insert_ref_is.0 statement.insert_ref_is.1 refl refl refl (λ rows. refl) (λ rows. refl) old new count writing h in
    record { writing = it.writing; was_open = λ opened. it.was_open; rows = only.only_ref old.now.trees new.now.trees it.others (λ rows. r ∷ rows) (IsPermutation-map stored.ref_in _ _ it.rows) }

pub span_added : (r : SpanRow) (old new : State) (count : ℕ) → IsWriting old → ExecutesInside 0 it.insert_span (span_cells r) old new (Ok count) → Makes (λ t. record t { span = r ∷ t.span }) old new
span_added r old new count writing h =
    let it = adds_row 7 (codes "span") 11 None (1 ∷ 2 ∷ 3 ∷ []) ((1 ∷ 2 ∷ 3 ∷ []) ∷ []) (plain ∷ []) (refers 1 (codes "asset") ∷ []) (whole (codes "asset") ∷ words (codes "route") ∷ whole (codes "lo") ∷ whole (codes "hi") ∷ whole (codes "side") ∷ []) refl
    it.insert_span (span_cells r) (lit Null ∷ col 0 0 ∷ col 0 1 ∷ col 0 2 ∷ col 0 3 ∷ col 0 4 ∷ []) 6 (Null) (Int r.asset ∷ Text r.route ∷ Int r.lo ∷ Int r.hi ∷ Int r.side ∷ []) stored.span_places (span_cells r) statement.insert_span_is.0 statement.insert_span_is.1 refl refl refl (λ rows. refl) (λ rows. refl) old new count writing h in
    record { writing = it.writing; was_open = λ opened. it.was_open; rows = only.only_span old.now.trees new.now.trees it.others (λ rows. r ∷ rows) (IsPermutation-map stored.span_in _ _ it.rows) }

pub entered_added : (r : EnteredRow) (old new : State) (count : ℕ) → IsWriting old → ExecutesInside 0 it.insert_entered (entered_cells r) old new (Ok count) → Makes (λ t. record t { entered = r ∷ t.entered }) old new
entered_added r old new count writing h =
    let it = adds_row 8 (codes "entered") 13 None (1 ∷ 2 ∷ 3 ∷ 4 ∷ 6 ∷ []) ((1 ∷ 2 ∷ 3 ∷ 4 ∷ 6 ∷ []) ∷ []) (plain ∷ []) [] (whole (codes "edit") ∷ whole (codes "asset") ∷ whole (codes "link") ∷ whole (codes "lo") ∷ whole (codes "hi") ∷ whole (codes "side") ∷ []) refl
    it.insert_entered (entered_cells r) (lit Null ∷ col 0 0 ∷ col 0 1 ∷ col 0 2 ∷ col 0 3 ∷ col 0 4 ∷ col 0 5 ∷ []) 7 (Null) (Int r.edit ∷ Int r.asset ∷ Int r.link ∷ Int r.lo ∷ Int r.hi ∷ Int r.side ∷ []) stored.entered_places (entered_cells r) statement.insert_entered_is.0 statement.insert_entered_is.1 refl refl refl (λ rows. refl) (λ rows. refl) old new count writing h in
    record { writing = it.writing; was_open = λ opened. it.was_open; rows = only.only_entered old.now.trees new.now.trees it.others (λ rows. r ∷ rows) (IsPermutation-map stored.entered_in _ _ it.rows) }

pub gone_added : (r : GoneRow) (old new : State) (count : ℕ) → IsWriting old → ExecutesInside 0 it.insert_gone (gone_cells r) old new (Ok count) → Makes (λ t. record t { gone = r ∷ t.gone }) old new
gone_added r old new count writing h =
    let it = adds_row 9 (codes "gone") 15 None (1 ∷ 2 ∷ 3 ∷ 4 ∷ 5 ∷ 7 ∷ []) ((1 ∷ 2 ∷ 3 ∷ 4 ∷ 5 ∷ 7 ∷ []) ∷ []) (plain ∷ []) [] (whole (codes "edit") ∷ whole (codes "cause") ∷ whole (codes "asset") ∷ whole (codes "link") ∷ whole (codes "lo") ∷ whole (codes "hi") ∷ whole (codes "side") ∷ []) refl
    it.insert_gone (gone_cells r) (lit Null ∷ col 0 0 ∷ col 0 1 ∷ col 0 2 ∷ col 0 3 ∷ col 0 4 ∷ col 0 5 ∷ col 0 6 ∷ []) 8 (Null) (Int r.row.edit ∷ Int r.cause ∷ Int r.row.asset ∷ Int r.row.link ∷ Int r.row.lo ∷ Int r.row.hi ∷ Int r.row.side ∷ []) stored.gone_places (gone_cells r) statement.insert_gone_is.0 statement.insert_gone_is.1 refl refl refl (λ rows. refl) (λ rows. refl) old new count writing h in
    record { writing = it.writing; was_open = λ opened. it.was_open; rows = only.only_gone old.now.trees new.now.trees it.others (λ rows. r ∷ rows) (IsPermutation-map stored.gone_in _ _ it.rows) }

pub edit_added : (r : EditRow) (old new : State) (count : ℕ) → IsWriting old → ExecutesInside 0 it.insert_edit (edit_cells r) old new (Ok count) → Makes (λ t. record t { edit = r ∷ t.edit }) old new
edit_added r old new count writing h =
    let it = adds_row 10 (codes "edit") 17 (Some 0) (0 ∷ []) ((2 ∷ []) ∷ []) (plain ∷ []) [] (whole (codes "number") ∷ words (codes "token") ∷ words (codes "line") ∷ []) refl
    it.insert_edit (edit_cells r) (col 0 0 ∷ lit Null ∷ col 0 1 ∷ col 0 2 ∷ []) 4 (Int r.number) (Null ∷ Text r.token ∷ Text r.line ∷ []) stored.edit_places (edit_cells r) statement.insert_edit_is.0 statement.insert_edit_is.1 refl refl refl (λ rows. refl) (λ rows. refl) old new count writing h in
    record { writing = it.writing; was_open = λ opened. it.was_open; rows = only.only_edit old.now.trees new.now.trees it.others (λ rows. r ∷ rows) (IsPermutation-map stored.edit_in _ _ it.rows) }

pub origin_added : (r : OriginRow) (old new : State) (count : ℕ) → IsWriting old → ExecutesInside 0 it.insert_origin (origin_cells r) old new (Ok count) → Makes (λ t. record t { origin = r ∷ t.origin }) old new
origin_added r old new count writing h =
    let it = adds_row 11 (codes "origin") 19 (Some 0) (0 ∷ []) [] [] (refers 0 (codes "asset") ∷ []) (whole (codes "asset") ∷ whole (codes "edit") ∷ []) refl
    it.insert_origin (origin_cells r) (col 0 0 ∷ lit Null ∷ col 0 1 ∷ []) 3 (Int r.asset) (Null ∷ Int r.edit ∷ []) stored.origin_places (origin_cells r) statement.insert_origin_is.0 statement.insert_origin_is.1 refl refl refl (λ rows. refl) (λ rows. refl) old new count writing h in
    record { writing = it.writing; was_open = λ opened. it.was_open; rows = only.only_origin old.now.trees new.now.trees it.others (λ rows. r ∷ rows) (IsPermutation-map stored.origin_in _ _ it.rows) }
