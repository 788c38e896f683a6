-- What a DELETE makes of the rows of a store, table by table.
use Rattle.std.proofs.Common.{◌≡◌, ℕ, pos, [], ◌∷◌, map, Bool, true, false, not, ◌&&◌, ◌||◌, drop, None, Ok, refl, sym, ap, ap₂, ◌∙◌, codes}
use Rattle.std.specs.Prelude.{filter}
use Rattle.std.specs.List.{list_any}
use Rattle.sqlite_value.specs.declared.value.Value.TheVariants.{Int, Text}
use Rattle.sqlite_value.specs.Order.{Row, column}
use Rattle.sqlite_value.specs.Keys.{plain}
use Rattle.sqlite_schema.specs.Rules.{are_typed, are_present}
use Rattle.sqlite.specs.State.{State, ExecutesInside}
use Rattle.lrs_measure.specs.Texts.{Name, same_name}
use Rattle.lrs_events.specs.declared.span.Span.{Span}
use Rattle.lrs_store_tables.specs.Schema.{whole, words, refers, piece_table, mark_table, ref_table, span_table}
use Rattle.lrs_store_tables.specs.Schema as it
use Rattle.lrs_store_tables.specs.StoredRows as stored
use Rattle.lrs_store_tables.specs.StoredRows.{IsWriting, Makes, text_in, whole_in}
use Rattle.lrs_store_tables.specs.RowChanges.{is_number, has_key_of, less_spans, less_refs}
use Rattle.lrs_store_tables.proofs.Answers.{passes}
use Rattle.lrs_store_commit.proofs.Columns.{text_column, whole_column, text_key, whole_key}
use Rattle.lrs_store_commit.proofs.DeleteStatements as statement
use Rattle.lrs_store_commit.proofs.Deleting.{takes_rows, holds_eq}
use Rattle.lrs_store_tables.proofs.Only.{same_rows}
use Rattle.lrs_store_tables.proofs.Only as only

pub and_true : (b : Bool) → (b && true) ≡ b
and_true true = refl
and_true false = refl

pub or_false : (b : Bool) → (b || false) ≡ b
or_false true = refl
or_false false = refl

pub piece_of_route : (route : Name) (r : Row) → are_typed None 0 piece_table.columns (drop 1 r) ≡ true → are_present None 0 piece_table.columns r ≡ true
    → passes statement.drop_piece_tests (Text route ∷ []) r ≡ same_name (stored.piece_in (map (column r) stored.piece_places)).route route
piece_of_route route r typed present =
    and_true _ ∙ holds_eq (column r 1) (Text route) refl ∙ text_key (column r 1) route (text_column piece_table.columns r 0 (codes "route") typed present refl)

pub pieces_dropped : (route : Name) (old new : State) (count : ℕ) → IsWriting old → ExecutesInside 0 it.drop_piece (Text route ∷ []) old new (Ok count)
    → Makes (λ t. record t { piece = filter (λ r. not (same_name r.route route)) t.piece }) old new
pieces_dropped route old new count writing h =
    let it = takes_rows 4 (codes "piece") 5 None (1 ∷ 2 ∷ []) ((1 ∷ 2 ∷ []) ∷ []) (plain ∷ []) (refers 3 (codes "link") ∷ []) (words (codes "route") ∷ whole (codes "n") ∷ whole (codes "link") ∷ whole (codes "a") ∷ whole (codes "b") ∷ whole (codes "dir") ∷ []) refl refl it.drop_piece statement.drop_piece_tests statement.drop_piece_is stored.piece_in stored.piece_places (λ r. same_name r.route route) (Text route ∷ [])
    (piece_of_route route) old new count writing h in
    record { writing = it.writing; was_open = λ opened. it.was_open; rows = only.only_piece old.now.trees new.now.trees it.others (filter (λ r. not (same_name r.route route))) (same_rows (sym it.rows)) }

pub mark_of_route : (route : Name) (r : Row) → are_typed None 0 mark_table.columns (drop 1 r) ≡ true → are_present None 0 mark_table.columns r ≡ true
    → passes statement.drop_mark_tests (Text route ∷ []) r ≡ same_name (stored.mark_in (map (column r) stored.mark_places)).route route
mark_of_route route r typed present =
    and_true _ ∙ holds_eq (column r 1) (Text route) refl ∙ text_key (column r 1) route (text_column mark_table.columns r 0 (codes "route") typed present refl)

pub marks_dropped : (route : Name) (old new : State) (count : ℕ) → IsWriting old → ExecutesInside 0 it.drop_mark (Text route ∷ []) old new (Ok count)
    → Makes (λ t. record t { mark = filter (λ r. not (same_name r.route route)) t.mark }) old new
marks_dropped route old new count writing h =
    let it = takes_rows 5 (codes "mark") 7 None (1 ∷ 2 ∷ []) ((1 ∷ 2 ∷ []) ∷ []) (plain ∷ []) [] (words (codes "route") ∷ whole (codes "n") ∷ whole (codes "chainage") ∷ whole (codes "measure") ∷ []) refl refl it.drop_mark statement.drop_mark_tests statement.drop_mark_is stored.mark_in stored.mark_places (λ r. same_name r.route route) (Text route ∷ [])
    (mark_of_route route) old new count writing h in
    record { writing = it.writing; was_open = λ opened. it.was_open; rows = only.only_mark old.now.trees new.now.trees it.others (filter (λ r. not (same_name r.route route))) (same_rows (sym it.rows)) }

ref_named : (name : Name) (r : Row) → are_typed None 0 ref_table.columns (drop 1 r) ≡ true → are_present None 0 ref_table.columns r ≡ true
    → passes statement.take_ref_tests (Text name ∷ []) r ≡ list_any (same_name (stored.ref_in (map (column r) stored.ref_places)).name) (name ∷ [])
ref_named name r typed present =
    and_true _ ∙ holds_eq (column r 1) (Text name) refl ∙ text_key (column r 1) name (text_column ref_table.columns r 0 (codes "name") typed present refl) ∙ sym (or_false _)

pub ref_taken : (name : Name) (old new : State) (count : ℕ) → IsWriting old → ExecutesInside 0 it.take_ref (Text name ∷ []) old new (Ok count)
    → Makes (less_refs (name ∷ [])) old new
ref_taken name old new count writing h =
    let it = takes_rows 6 (codes "ref") 9 None (1 ∷ []) ((1 ∷ []) ∷ []) (plain ∷ []) [] (words (codes "name") ∷ words (codes "route") ∷ whole (codes "place") ∷ []) refl refl it.take_ref statement.take_ref_tests statement.take_ref_is stored.ref_in stored.ref_places (λ r. list_any (same_name r.name) (name ∷ [])) (Text name ∷ [])
    (ref_named name) old new count writing h in
    record { writing = it.writing; was_open = λ opened. it.was_open; rows = only.only_ref old.now.trees new.now.trees it.others (filter (λ r. not (list_any (same_name r.name) (name ∷ [])))) (same_rows (sym it.rows)) }

and_shape : (a b c : Bool) → (a && (b && (c && true))) ≡ (a && b && c)
and_shape true true true = refl
and_shape true true false = refl
and_shape true false c = refl
and_shape false b c = refl

-- the parameters by which a span's row is found, and others
abbrev pub key_cells : Name → Span → Row → Row
key_cells route s more = Int (pos s.asset) ∷ Text route ∷ Int (pos s.from) ∷ more

pub span_keyed : (route : Name) (s : Span) (more : Row) (r : Row) → are_typed None 0 span_table.columns (drop 1 r) ≡ true → are_present None 0 span_table.columns r ≡ true
    → passes statement.take_span_tests (key_cells route s more) r ≡ list_any (λ x. has_key_of route x (stored.span_in (map (column r) stored.span_places))) (s ∷ [])
span_keyed route s more r typed present =
    let a = holds_eq (column r 1) (Int (pos s.asset)) refl ∙ whole_key (column r 1) s.asset (whole_column span_table.columns r 0 (codes "asset") typed present refl) in
    let b = holds_eq (column r 2) (Text route) refl ∙ text_key (column r 2) route (text_column span_table.columns r 1 (codes "route") typed present refl) in
    let c = holds_eq (column r 3) (Int (pos s.from)) refl ∙ whole_key (column r 3) s.from (whole_column span_table.columns r 2 (codes "lo") typed present refl) in
    ap₂ (λ x y. x && y) a (ap₂ (λ x y. x && y) b (ap (λ x. x && true) c))
    ∙ and_shape (is_number s.asset (whole_in (column r 1))) (same_name (text_in (column r 2)) route) (is_number s.from (whole_in (column r 3))) ∙ sym (or_false _)

pub span_taken : (route : Name) (s : Span) (old new : State) (count : ℕ) → IsWriting old → ExecutesInside 0 it.take_span (key_cells route s []) old new (Ok count)
    → Makes (less_spans route (s ∷ [])) old new
span_taken route s old new count writing h =
    let it = takes_rows 7 (codes "span") 11 None (1 ∷ 2 ∷ 3 ∷ []) ((1 ∷ 2 ∷ 3 ∷ []) ∷ []) (plain ∷ []) (refers 1 (codes "asset") ∷ []) (whole (codes "asset") ∷ words (codes "route") ∷ whole (codes "lo") ∷ whole (codes "hi") ∷ whole (codes "side") ∷ []) refl refl it.take_span statement.take_span_tests statement.take_span_is stored.span_in stored.span_places (λ r. list_any (λ x. has_key_of route x r) (s ∷ [])) (key_cells route s [])
    (span_keyed route s []) old new count writing h in
    record { writing = it.writing; was_open = λ opened. it.was_open; rows = only.only_span old.now.trees new.now.trees it.others (filter (λ r. not (list_any (λ x. has_key_of route x r) (s ∷ [])))) (same_rows (sym it.rows)) }
