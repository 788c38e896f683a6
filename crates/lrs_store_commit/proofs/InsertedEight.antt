-- What an INSERT of eight rows makes of the rows of a store, table by table.
use Rattle.std.proofs.Common.{◌≡◌, ℕ, ◌/◌, List, [], ◌∷◌, ◌++◌, map, length, Some, None, Ok, refl, codes, ap, subst, ◌∙◌, ap₂, arith}
use Rattle.std.specs.List.{flat_map}
use Rattle.std.specs.List.Sorted.{IsPermutation}
use Rattle.std.proofs.lemmas.List.{map-append}
use Rattle.std.proofs.lemmas.List.Sorted.{IsPermutation-map}
use Rattle.sqlite_value.specs.declared.value.Value.TheVariants.{Null, Int, Text}
use Rattle.sqlite_value.specs.Order.{Row}
use Rattle.sqlite_value.specs.Keys.{plain}
use Rattle.sqlite.specs.Effect.{value_rows}
use Rattle.sqlite.specs.State.{State, ExecutesInside}
use Rattle.lrs_store_tables.specs.Contents.Tables.{AssetRow, SpanRow, EnteredRow, EditRow, OriginRow}
use Rattle.lrs_store_tables.specs.Schema.{whole, words, refers}
use Rattle.lrs_store_tables.specs.Schema as it
use Rattle.lrs_store_tables.specs.Cells.{asset_cells, span_cells, entered_cells, edit_cells, origin_cells}
use Rattle.lrs_store_tables.specs.StoredRows as stored
use Rattle.lrs_store_tables.specs.StoredRows.{IsWriting, Makes}
use Rattle.lrs_store_commit.proofs.EightStatements as statement
use Rattle.lrs_store_commit.proofs.EightStatements.{eight_of}
use Rattle.lrs_store_tables.proofs.Inserting.{adds_rows}
use Rattle.lrs_store_tables.proofs.Only as only

-- what is true of eight that are written out is true of each list of eight
of_eight : {X : Type 0} (P : List X → Type 0) → ((a b c d e f g h : X) → P (a ∷ b ∷ c ∷ d ∷ e ∷ f ∷ g ∷ h ∷ [])) → (xs : List X) → length xs ≡ 8 → P xs
of_eight P all [] is = absurd (omega (arith, is))
of_eight P all (a ∷ []) is = absurd (omega (arith, is))
of_eight P all (a ∷ b ∷ []) is = absurd (omega (arith, is))
of_eight P all (a ∷ b ∷ c ∷ []) is = absurd (omega (arith, is))
of_eight P all (a ∷ b ∷ c ∷ d ∷ []) is = absurd (omega (arith, is))
of_eight P all (a ∷ b ∷ c ∷ d ∷ e ∷ []) is = absurd (omega (arith, is))
of_eight P all (a ∷ b ∷ c ∷ d ∷ e ∷ f ∷ []) is = absurd (omega (arith, is))
of_eight P all (a ∷ b ∷ c ∷ d ∷ e ∷ f ∷ g ∷ []) is = absurd (omega (arith, is))
of_eight P all (a ∷ b ∷ c ∷ d ∷ e ∷ f ∷ g ∷ h ∷ []) is = all a b c d e f g h
of_eight P all (a ∷ b ∷ c ∷ d ∷ e ∷ f ∷ g ∷ h ∷ i ∷ more) is = absurd (omega (arith, is))

said_each : {X : Type 0} (said : Row → X) (cells : X → Row) → ((x : X) → said (cells x) ≡ x) → (xs : List X) → map said (map cells xs) ≡ xs
said_each said cells same [] = refl
said_each said cells same (x ∷ xs) = ap₂ (λ y ys. y ∷ ys) (same x) (said_each said cells same xs)

-- what the columns of the new rows say
shown : {X : Type 0} (said : Row → X) (cells : X → Row) → ((x : X) → said (cells x) ≡ x) → (xs : List X) (rows all : List Row) → IsPermutation (map cells xs ++ rows) all → IsPermutation (xs ++ map said rows) (map said all)
shown said cells same xs rows all h =
    subst (λ l. IsPermutation l (map said all)) (map-append said (map cells xs) rows ∙ ap (λ l. l ++ map said rows) (said_each said cells same xs)) (IsPermutation-map said _ _ h)

pub assets_added : (rs : List AssetRow) (old new : State) (count : ℕ) → length rs ≡ 8 → IsWriting old → ExecutesInside 0 it.insert_eight_assets (flat_map asset_cells rs) old new (Ok count)
    → Makes (λ t. record t { asset = rs ++ t.asset }) old new
assets_added rs old new count eight writing h =
    let it = adds_rows 3 (codes "asset") 4 (Some 0) (0 ∷ []) [] [] (refers 2 (codes "class") ∷ []) (whole (codes "number") ∷ words (codes "class") ∷ words (codes "value") ∷ whole (codes "lateral") ∷ []) refl
    it.insert_eight_assets (flat_map asset_cells rs) (eight_of statement.asset_terms 4) 5 (λ (r : AssetRow). Int r.number) (λ (r : AssetRow). Null ∷ Text r.class ∷ Text r.value ∷ Int r.lateral ∷ []) stored.asset_places asset_cells rs statement.insert_eight_assets_is.0 statement.insert_eight_assets_is.1
    (of_eight (λ xs. value_rows (flat_map asset_cells xs ++ []) 5 (length (eight_of statement.asset_terms 4) / 5) (eight_of statement.asset_terms 4) ≡ map (λ (r : AssetRow). Int r.number ∷ Null ∷ Text r.class ∷ Text r.value ∷ Int r.lateral ∷ []) xs) (λ a b c d e f g h. refl) rs eight)
    (λ r. refl) (λ r. refl) (λ r rows. refl) (λ r rows. refl) old new count writing h in
    record { writing = it.writing; was_open = λ opened. it.was_open; rows = only.only_asset old.now.trees new.now.trees it.others (λ rows. rs ++ rows) (shown stored.asset_in asset_cells (λ r. refl) rs _ _ it.rows) }

pub spans_added : (rs : List SpanRow) (old new : State) (count : ℕ) → length rs ≡ 8 → IsWriting old → ExecutesInside 0 it.insert_eight_spans (flat_map span_cells rs) old new (Ok count)
    → Makes (λ t. record t { span = rs ++ t.span }) old new
spans_added rs old new count eight writing h =
    let it = adds_rows 7 (codes "span") 11 None (1 ∷ 2 ∷ 3 ∷ []) ((1 ∷ 2 ∷ 3 ∷ []) ∷ []) (plain ∷ []) (refers 1 (codes "asset") ∷ []) (whole (codes "asset") ∷ words (codes "route") ∷ whole (codes "lo") ∷ whole (codes "hi") ∷ whole (codes "side") ∷ []) refl
    it.insert_eight_spans (flat_map span_cells rs) (eight_of statement.span_terms 5) 6 (λ (r : SpanRow). Null) (λ (r : SpanRow). Int r.asset ∷ Text r.route ∷ Int r.lo ∷ Int r.hi ∷ Int r.side ∷ []) stored.span_places span_cells rs statement.insert_eight_spans_is.0 statement.insert_eight_spans_is.1
    (of_eight (λ xs. value_rows (flat_map span_cells xs ++ []) 6 (length (eight_of statement.span_terms 5) / 6) (eight_of statement.span_terms 5) ≡ map (λ (r : SpanRow). Null ∷ Int r.asset ∷ Text r.route ∷ Int r.lo ∷ Int r.hi ∷ Int r.side ∷ []) xs) (λ a b c d e f g h. refl) rs eight)
    (λ r. refl) (λ r. refl) (λ r rows. refl) (λ r rows. refl) old new count writing h in
    record { writing = it.writing; was_open = λ opened. it.was_open; rows = only.only_span old.now.trees new.now.trees it.others (λ rows. rs ++ rows) (shown stored.span_in span_cells (λ r. refl) rs _ _ it.rows) }

pub entered_added : (rs : List EnteredRow) (old new : State) (count : ℕ) → length rs ≡ 8 → IsWriting old → ExecutesInside 0 it.insert_eight_entered (flat_map entered_cells rs) old new (Ok count)
    → Makes (λ t. record t { entered = rs ++ t.entered }) old new
entered_added rs old new count eight writing h =
    let it = adds_rows 8 (codes "entered") 13 None (1 ∷ 2 ∷ 3 ∷ 4 ∷ 6 ∷ []) ((1 ∷ 2 ∷ 3 ∷ 4 ∷ 6 ∷ []) ∷ []) (plain ∷ []) [] (whole (codes "edit") ∷ whole (codes "asset") ∷ whole (codes "link") ∷ whole (codes "lo") ∷ whole (codes "hi") ∷ whole (codes "side") ∷ []) refl
    it.insert_eight_entered (flat_map entered_cells rs) (eight_of statement.entered_terms 6) 7 (λ (r : EnteredRow). Null) (λ (r : EnteredRow). Int r.edit ∷ Int r.asset ∷ Int r.link ∷ Int r.lo ∷ Int r.hi ∷ Int r.side ∷ []) stored.entered_places entered_cells rs statement.insert_eight_entered_is.0 statement.insert_eight_entered_is.1
    (of_eight (λ xs. value_rows (flat_map entered_cells xs ++ []) 7 (length (eight_of statement.entered_terms 6) / 7) (eight_of statement.entered_terms 6) ≡ map (λ (r : EnteredRow). Null ∷ Int r.edit ∷ Int r.asset ∷ Int r.link ∷ Int r.lo ∷ Int r.hi ∷ Int r.side ∷ []) xs) (λ a b c d e f g h. refl) rs eight)
    (λ r. refl) (λ r. refl) (λ r rows. refl) (λ r rows. refl) old new count writing h in
    record { writing = it.writing; was_open = λ opened. it.was_open; rows = only.only_entered old.now.trees new.now.trees it.others (λ rows. rs ++ rows) (shown stored.entered_in entered_cells (λ r. refl) rs _ _ it.rows) }

pub edits_added : (rs : List EditRow) (old new : State) (count : ℕ) → length rs ≡ 8 → IsWriting old → ExecutesInside 0 it.insert_eight_edits (flat_map edit_cells rs) old new (Ok count)
    → Makes (λ t. record t { edit = rs ++ t.edit }) old new
edits_added rs old new count eight writing h =
    let it = adds_rows 10 (codes "edit") 17 (Some 0) (0 ∷ []) ((2 ∷ []) ∷ []) (plain ∷ []) [] (whole (codes "number") ∷ words (codes "token") ∷ words (codes "line") ∷ []) refl
    it.insert_eight_edits (flat_map edit_cells rs) (eight_of statement.edit_terms 3) 4 (λ (r : EditRow). Int r.number) (λ (r : EditRow). Null ∷ Text r.token ∷ Text r.line ∷ []) stored.edit_places edit_cells rs statement.insert_eight_edits_is.0 statement.insert_eight_edits_is.1
    (of_eight (λ xs. value_rows (flat_map edit_cells xs ++ []) 4 (length (eight_of statement.edit_terms 3) / 4) (eight_of statement.edit_terms 3) ≡ map (λ (r : EditRow). Int r.number ∷ Null ∷ Text r.token ∷ Text r.line ∷ []) xs) (λ a b c d e f g h. refl) rs eight)
    (λ r. refl) (λ r. refl) (λ r rows. refl) (λ r rows. refl) old new count writing h in
    record { writing = it.writing; was_open = λ opened. it.was_open; rows = only.only_edit old.now.trees new.now.trees it.others (λ rows. rs ++ rows) (shown stored.edit_in edit_cells (λ r. refl) rs _ _ it.rows) }

pub origins_added : (rs : List OriginRow) (old new : State) (count : ℕ) → length rs ≡ 8 → IsWriting old → ExecutesInside 0 it.insert_eight_origins (flat_map origin_cells rs) old new (Ok count)
    → Makes (λ t. record t { origin = rs ++ t.origin }) old new
origins_added rs old new count eight writing h =
    let it = adds_rows 11 (codes "origin") 19 (Some 0) (0 ∷ []) [] [] (refers 0 (codes "asset") ∷ []) (whole (codes "asset") ∷ whole (codes "edit") ∷ []) refl
    it.insert_eight_origins (flat_map origin_cells rs) (eight_of statement.origin_terms 2) 3 (λ (r : OriginRow). Int r.asset) (λ (r : OriginRow). Null ∷ Int r.edit ∷ []) stored.origin_places origin_cells rs statement.insert_eight_origins_is.0 statement.insert_eight_origins_is.1
    (of_eight (λ xs. value_rows (flat_map origin_cells xs ++ []) 3 (length (eight_of statement.origin_terms 2) / 3) (eight_of statement.origin_terms 2) ≡ map (λ (r : OriginRow). Int r.asset ∷ Null ∷ Int r.edit ∷ []) xs) (λ a b c d e f g h. refl) rs eight)
    (λ r. refl) (λ r. refl) (λ r rows. refl) (λ r rows. refl) old new count writing h in
    record { writing = it.writing; was_open = λ opened. it.was_open; rows = only.only_origin old.now.trees new.now.trees it.others (λ rows. rs ++ rows) (shown stored.origin_in origin_cells (λ r. refl) rs _ _ it.rows) }
