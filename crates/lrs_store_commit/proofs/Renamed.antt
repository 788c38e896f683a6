-- What an UPDATE of the name of a route makes of the rows of a store, table by table.
use Rattle.std.proofs.Common.{◌≡◌, ℕ, [], ◌∷◌, map, true, ◌&&◌, drop, None, Ok, refl, sym, ap, ap₂, ◌∙◌, codes}
use Rattle.std.specs.List.{list_any}
use Rattle.std.proofs.lemmas.Bool.{and_from}
use Rattle.sqlite_value.specs.declared.value.Value.TheVariants.{Int, Text}
use Rattle.sqlite_value.specs.Order.{Row, column}
use Rattle.sqlite_value.specs.Keys.{plain}
use Rattle.sqlite_schema.specs.Rules.{are_typed, are_present}
use Rattle.sqlite_trees.specs.Tree.{rowid}
use Rattle.sqlite_rules.specs.Edit.{id_in}
use Rattle.sqlite.specs.State.{State, ExecutesInside}
use Rattle.lrs_measure.specs.Texts.{Name, same_name}
use Rattle.lrs_events.specs.declared.span.Span.{Span}
use Rattle.lrs_store_tables.specs.Schema.{whole, words, refers, piece_table, mark_table, ref_table, span_table}
use Rattle.lrs_store_tables.specs.Schema as it
use Rattle.lrs_store_tables.specs.StoredRows as stored
use Rattle.lrs_store_tables.specs.StoredRows.{IsWriting, Makes, text_in}
use Rattle.lrs_store_tables.specs.RowChanges.{is_ref_of, has_key_of, renamed_piece, renamed_mark, renamed_ref, renamed_span, renamed_pieces, renamed_marks, renamed_refs, renamed_spans}
use Rattle.lrs_store_commit.proofs.Columns.{text_column, whole_column, text_key, suits_whole, suits_text, whole_number}
use Rattle.lrs_store_tables.proofs.Rows.{cast_row_suits}
use Rattle.lrs_store_tables.proofs.Answers.{passes}
use Rattle.lrs_store_commit.proofs.RenameStatements as statement
use Rattle.lrs_store_commit.proofs.Deleting.{holds_eq}
use Rattle.lrs_store_commit.proofs.Updating.{renames_rows}
use Rattle.lrs_store_commit.proofs.Deleted.{piece_of_route, mark_of_route, key_cells, span_keyed, and_true, or_false}
use Rattle.lrs_store_tables.proofs.Only as only

piece_becomes : (old new : Name) (r : Row) → Int (id_in (rowid r)) ≡ rowid r → are_typed None 0 piece_table.columns (drop 1 r) ≡ true → are_present None 0 piece_table.columns r ≡ true
    → stored.piece_in (map (column (Rattle.sqlite_rules.specs.Cast.cast_row piece_table (column r 0 ∷ Text new ∷ column r 2 ∷ column r 3 ∷ column r 4 ∷ column r 5 ∷ column r 6 ∷ []))) stored.piece_places) ≡ record (stored.piece_in (map (column r) stored.piece_places)) { route = new }
piece_becomes old new r numbered typed present =
    ap (λ x. stored.piece_in (map (column x) stored.piece_places)) (cast_row_suits piece_table (column r 0) (Text new ∷ column r 2 ∷ column r 3 ∷ column r 4 ∷ column r 5 ∷ column r 6 ∷ []) (suits_whole (column r 0) (whole_number r numbered))
    (and_from _ _ refl (and_from _ _ (suits_whole (column r 2) (whole_column piece_table.columns r 1 (codes "n") typed present refl)) (and_from _ _ (suits_whole (column r 3) (whole_column piece_table.columns r 2 (codes "link") typed present refl)) (and_from _ _ (suits_whole (column r 4) (whole_column piece_table.columns r 3 (codes "a") typed present refl)) (and_from _ _ (suits_whole (column r 5) (whole_column piece_table.columns r 4 (codes "b") typed present refl)) (and_from _ _ (suits_whole (column r 6) (whole_column piece_table.columns r 5 (codes "dir") typed present refl)) refl)))))))

pub pieces_renamed : (old_name new_name : Name) (old new : State) (count : ℕ) → IsWriting old → ExecutesInside 0 it.rename_piece (Text old_name ∷ Text new_name ∷ []) old new (Ok count)
    → Makes (renamed_pieces old_name new_name) old new
pieces_renamed old_name new_name old new count writing h =
    let it = renames_rows 4 (codes "piece") 5 None (1 ∷ 2 ∷ []) ((1 ∷ 2 ∷ []) ∷ []) (plain ∷ []) (refers 3 (codes "link") ∷ []) (words (codes "route") ∷ whole (codes "n") ∷ whole (codes "link") ∷ whole (codes "a") ∷ whole (codes "b") ∷ whole (codes "dir") ∷ []) refl refl it.rename_piece statement.drop_piece_tests statement.rename_piece_row statement.rename_piece_is stored.piece_in stored.piece_places
    (λ r. same_name r.route old_name) (λ r. record r { route = new_name }) (Text old_name ∷ Text new_name ∷ []) (piece_of_route old_name) (piece_becomes old_name new_name) old new count writing h in
    record { writing = it.writing; was_open = λ opened. it.was_open; rows = only.only_piece old.now.trees new.now.trees it.others (map (renamed_piece old_name new_name)) it.rows }

mark_becomes : (old new : Name) (r : Row) → Int (id_in (rowid r)) ≡ rowid r → are_typed None 0 mark_table.columns (drop 1 r) ≡ true → are_present None 0 mark_table.columns r ≡ true
    → stored.mark_in (map (column (Rattle.sqlite_rules.specs.Cast.cast_row mark_table (column r 0 ∷ Text new ∷ column r 2 ∷ column r 3 ∷ column r 4 ∷ []))) stored.mark_places) ≡ record (stored.mark_in (map (column r) stored.mark_places)) { route = new }
mark_becomes old new r numbered typed present =
    ap (λ x. stored.mark_in (map (column x) stored.mark_places)) (cast_row_suits mark_table (column r 0) (Text new ∷ column r 2 ∷ column r 3 ∷ column r 4 ∷ []) (suits_whole (column r 0) (whole_number r numbered))
    (and_from _ _ refl (and_from _ _ (suits_whole (column r 2) (whole_column mark_table.columns r 1 (codes "n") typed present refl)) (and_from _ _ (suits_whole (column r 3) (whole_column mark_table.columns r 2 (codes "chainage") typed present refl)) (and_from _ _ (suits_whole (column r 4) (whole_column mark_table.columns r 3 (codes "measure") typed present refl)) refl)))))

pub marks_renamed : (old_name new_name : Name) (old new : State) (count : ℕ) → IsWriting old → ExecutesInside 0 it.rename_mark (Text old_name ∷ Text new_name ∷ []) old new (Ok count)
    → Makes (renamed_marks old_name new_name) old new
marks_renamed old_name new_name old new count writing h =
    let it = renames_rows 5 (codes "mark") 7 None (1 ∷ 2 ∷ []) ((1 ∷ 2 ∷ []) ∷ []) (plain ∷ []) [] (words (codes "route") ∷ whole (codes "n") ∷ whole (codes "chainage") ∷ whole (codes "measure") ∷ []) refl refl it.rename_mark statement.drop_mark_tests statement.rename_mark_row statement.rename_mark_is stored.mark_in stored.mark_places
    (λ r. same_name r.route old_name) (λ r. record r { route = new_name }) (Text old_name ∷ Text new_name ∷ []) (mark_of_route old_name) (mark_becomes old_name new_name) old new count writing h in
    record { writing = it.writing; was_open = λ opened. it.was_open; rows = only.only_mark old.now.trees new.now.trees it.others (map (renamed_mark old_name new_name)) it.rows }

ref_becomes : (old new : Name) (r : Row) → Int (id_in (rowid r)) ≡ rowid r → are_typed None 0 ref_table.columns (drop 1 r) ≡ true → are_present None 0 ref_table.columns r ≡ true
    → stored.ref_in (map (column (Rattle.sqlite_rules.specs.Cast.cast_row ref_table (column r 0 ∷ column r 1 ∷ Text new ∷ column r 3 ∷ []))) stored.ref_places) ≡ record (stored.ref_in (map (column r) stored.ref_places)) { route = new }
ref_becomes old new r numbered typed present =
    ap (λ x. stored.ref_in (map (column x) stored.ref_places)) (cast_row_suits ref_table (column r 0) (column r 1 ∷ Text new ∷ column r 3 ∷ []) (suits_whole (column r 0) (whole_number r numbered))
    (and_from _ _ (suits_text (column r 1) (text_column ref_table.columns r 0 (codes "name") typed present refl)) (and_from _ _ refl (and_from _ _ (suits_whole (column r 3) (whole_column ref_table.columns r 2 (codes "place") typed present refl)) refl))))

ref_keyed : (route name : Name) (more : Row) (r : Row) → are_typed None 0 ref_table.columns (drop 1 r) ≡ true → are_present None 0 ref_table.columns r ≡ true
    → passes statement.rename_ref_tests (Text name ∷ Text route ∷ more) r ≡ list_any (λ n. is_ref_of route n (stored.ref_in (map (column r) stored.ref_places))) (name ∷ [])
ref_keyed route name more r typed present =
    let a = holds_eq (column r 1) (Text name) refl ∙ text_key (column r 1) name (text_column ref_table.columns r 0 (codes "name") typed present refl) in
    let b = holds_eq (column r 2) (Text route) refl ∙ text_key (column r 2) route (text_column ref_table.columns r 1 (codes "route") typed present refl) in
    ap₂ (λ x y. x && y) a (ap (λ x. x && true) b ∙ and_true _) ∙ sym (or_false _)

pub ref_renamed : (route new_name name : Name) (old new : State) (count : ℕ) → IsWriting old → ExecutesInside 0 it.rename_ref (Text name ∷ Text route ∷ Text new_name ∷ []) old new (Ok count)
    → Makes (renamed_refs route new_name (name ∷ [])) old new
ref_renamed route new_name name old new count writing h =
    let it = renames_rows 6 (codes "ref") 9 None (1 ∷ []) ((1 ∷ []) ∷ []) (plain ∷ []) [] (words (codes "name") ∷ words (codes "route") ∷ whole (codes "place") ∷ []) refl refl it.rename_ref statement.rename_ref_tests statement.rename_ref_row statement.rename_ref_is stored.ref_in stored.ref_places
    (λ r. list_any (λ n. is_ref_of route n r) (name ∷ [])) (λ r. record r { route = new_name }) (Text name ∷ Text route ∷ Text new_name ∷ []) (ref_keyed route name (Text new_name ∷ [])) (ref_becomes route new_name) old new count writing h in
    record { writing = it.writing; was_open = λ opened. it.was_open; rows = only.only_ref old.now.trees new.now.trees it.others (map (renamed_ref route new_name (name ∷ []))) it.rows }

span_becomes : (old new : Name) (r : Row) → Int (id_in (rowid r)) ≡ rowid r → are_typed None 0 span_table.columns (drop 1 r) ≡ true → are_present None 0 span_table.columns r ≡ true
    → stored.span_in (map (column (Rattle.sqlite_rules.specs.Cast.cast_row span_table (column r 0 ∷ column r 1 ∷ Text new ∷ column r 3 ∷ column r 4 ∷ column r 5 ∷ []))) stored.span_places) ≡ record (stored.span_in (map (column r) stored.span_places)) { route = new }
span_becomes old new r numbered typed present =
    ap (λ x. stored.span_in (map (column x) stored.span_places)) (cast_row_suits span_table (column r 0) (column r 1 ∷ Text new ∷ column r 3 ∷ column r 4 ∷ column r 5 ∷ []) (suits_whole (column r 0) (whole_number r numbered))
    (and_from _ _ (suits_whole (column r 1) (whole_column span_table.columns r 0 (codes "asset") typed present refl)) (and_from _ _ refl (and_from _ _ (suits_whole (column r 3) (whole_column span_table.columns r 2 (codes "lo") typed present refl)) (and_from _ _ (suits_whole (column r 4) (whole_column span_table.columns r 3 (codes "hi") typed present refl)) (and_from _ _ (suits_whole (column r 5) (whole_column span_table.columns r 4 (codes "side") typed present refl)) refl))))))

pub span_renamed : (route new_name : Name) (s : Span) (old new : State) (count : ℕ) → IsWriting old → ExecutesInside 0 it.rename_span (key_cells route s (Text new_name ∷ [])) old new (Ok count)
    → Makes (renamed_spans route new_name (s ∷ [])) old new
span_renamed route new_name s old new count writing h =
    let it = renames_rows 7 (codes "span") 11 None (1 ∷ 2 ∷ 3 ∷ []) ((1 ∷ 2 ∷ 3 ∷ []) ∷ []) (plain ∷ []) (refers 1 (codes "asset") ∷ []) (whole (codes "asset") ∷ words (codes "route") ∷ whole (codes "lo") ∷ whole (codes "hi") ∷ whole (codes "side") ∷ []) refl refl it.rename_span statement.take_span_tests statement.rename_span_row statement.rename_span_is stored.span_in stored.span_places
    (λ r. list_any (λ x. has_key_of route x r) (s ∷ [])) (λ r. record r { route = new_name }) (key_cells route s (Text new_name ∷ [])) (span_keyed route s (Text new_name ∷ [])) (span_becomes route new_name) old new count writing h in
    record { writing = it.writing; was_open = λ opened. it.was_open; rows = only.only_span old.now.trees new.now.trees it.others (map (renamed_span route new_name (s ∷ []))) it.rows }
