-- How many rows entries have, and what putting them table by table makes.
use Rattle.std.proofs.Common.{◌≡◌, ℕ, ◌+◌, ◌-◌, List, [], ◌∷◌, ◌++◌, length, take, drop, map, Option, refl, sym, suc, ap, subst, ◌∙◌, append_assoc, length-append, arith}
use Rattle.std.specs.Prelude.{option_to_list}
use Rattle.std.specs.List.{AllByRecursion, flat_map}
use Rattle.std.specs.List.Sorted.{IsPermutation}
use Rattle.std.proofs.lemmas.List.{flat_map_more, length-map, length-drop, take-append-drop, take_rest}
use Rattle.std.proofs.lemmas.List.Sorted.{IsPermutation-refl, IsPermutation-trans, IsPermutation-append_left, IsPermutation-append_right, IsPermutation-append_comm}
use Rattle.lrs_image.specs.declared.change.RouteChange.{RouteChange}
use Rattle.lrs_image.specs.declared.change.Change.{Change}
use Rattle.lrs_events.specs.declared.class.Asset.{Asset}
use Rattle.lrs_events.specs.declared.part.Part.{Part}
use Rattle.sqlite.specs.State.{State}
use Rattle.lrs_store_tables.specs.Contents.Tables.{Tables, AreSame}
use Rattle.lrs_store_tables.specs.Contents.Laws.{origin_row}
use Rattle.lrs_store_tables.specs.Contents.Encoders.{asset_row, entered_row, edit_row, numbered}
use Rattle.lrs_store_tables.specs.StoredRows.{Makes}
use Rattle.lrs_store_tables.specs.RowChanges.{with_entered}
use Rattle.lrs_store_commit.specs.NewAssets.{IsNewAsset, HasTwoParts, asset_rows, origin_rows, spans_on, span_rows, entered_rows, first_rows, other_rows, with_assets_of, with_origins_of, with_spans_of, with_firsts_of, with_others_of, with_parts_of, with_edits_of}
use Rattle.lrs_store_commit.proofs.EntryLemmas.{its_asset, its_change, its_parts}
use Rattle.lrs_store_tables.proofs.Steady.{IsSteady}
use Rattle.lrs_store_commit.proofs.Then.{makes_then}

-- as many rows as values
as_many : {X R : Type 0} (rows : X → List R) (P : X → Type 0) → ((x : X) → P x → length (rows x) ≡ 1) → (xs : List X) → AllByRecursion P xs → length (flat_map rows xs) ≡ length xs
as_many rows P one [] all = refl
as_many rows P one (x ∷ xs) all = omega (arith, length-append (rows x) (flat_map rows xs), one x all.0, as_many rows P one xs all.1)

pub many_numbered : {X R : Type 0} (row : ℕ → X → R) (n : ℕ) (xs : List X) → length (numbered row n xs) ≡ length xs
many_numbered row n [] = refl
many_numbered row n (x ∷ xs) = ap suc (many_numbered row (n + 1) xs)

pub many_assets : (cs : List Change) → AllByRecursion IsNewAsset cs → length (flat_map asset_rows cs) ≡ length cs
many_assets = as_many asset_rows IsNewAsset (λ c h. subst (λ (o : Option Asset). length (map asset_row (option_to_list o)) ≡ 1) (sym (its_asset c h)) refl)

pub many_origins : (cs : List Change) → AllByRecursion IsNewAsset cs → length (flat_map origin_rows cs) ≡ length cs
many_origins = as_many origin_rows IsNewAsset (λ c h. subst (λ (o : Option Asset). length (map origin_row (option_to_list o)) ≡ 1) (sym (its_asset c h)) refl)

pub many_spans : (cs : List Change) → AllByRecursion IsNewAsset cs → length (flat_map span_rows cs) ≡ length cs
many_spans = as_many span_rows IsNewAsset (λ c h. subst (λ (o : Option RouteChange). length (spans_on o) ≡ 1) (sym (its_change c h)) refl)

pub many_firsts : (cs : List Change) → AllByRecursion IsNewAsset cs → length (flat_map first_rows cs) ≡ length cs
many_firsts = as_many first_rows IsNewAsset (λ c h. subst (λ (ps : List Part). length (take 1 (map entered_row ps)) ≡ 1) (sym (its_parts c h)) refl)

pub many_seconds : (cs : List Change) → AllByRecursion HasTwoParts cs → length (flat_map other_rows cs) ≡ length cs
many_seconds = as_many other_rows HasTwoParts (λ c h. omega (arith, h, length-map c.difference.entered entered_row, length-drop 1 (entered_rows c)))

-- ---- what is put of the same rows is the same rows

pub steady-assets : (cs : List Change) → IsSteady (with_assets_of cs)
steady-assets cs a b h = record { version = h.version; link = h.link; class = h.class; asset = IsPermutation-append_right (flat_map asset_rows cs) _ _ h.asset; piece = h.piece; mark = h.mark; ref = h.ref; span = h.span; entered = h.entered; gone = h.gone; edit = h.edit; origin = h.origin }

pub steady-origins : (cs : List Change) → IsSteady (with_origins_of cs)
steady-origins cs a b h = record { version = h.version; link = h.link; class = h.class; asset = h.asset; piece = h.piece; mark = h.mark; ref = h.ref; span = h.span; entered = h.entered; gone = h.gone; edit = h.edit; origin = IsPermutation-append_right (flat_map origin_rows cs) _ _ h.origin }

pub steady-spans : (cs : List Change) → IsSteady (with_spans_of cs)
steady-spans cs a b h = record { version = h.version; link = h.link; class = h.class; asset = h.asset; piece = h.piece; mark = h.mark; ref = h.ref; span = IsPermutation-append_right (flat_map span_rows cs) _ _ h.span; entered = h.entered; gone = h.gone; edit = h.edit; origin = h.origin }

pub steady-parts : (cs : List Change) → IsSteady (with_parts_of cs)
steady-parts cs a b h = record { version = h.version; link = h.link; class = h.class; asset = h.asset; piece = h.piece; mark = h.mark; ref = h.ref; span = h.span; entered = IsPermutation-append_right (flat_map entered_rows cs) _ _ h.entered; gone = h.gone; edit = h.edit; origin = h.origin }

pub steady-others : (cs : List Change) → IsSteady (with_others_of cs)
steady-others cs a b h = record { version = h.version; link = h.link; class = h.class; asset = h.asset; piece = h.piece; mark = h.mark; ref = h.ref; span = h.span; entered = IsPermutation-append_right (flat_map other_rows cs) _ _ h.entered; gone = h.gone; edit = h.edit; origin = h.origin }

pub steady-edits : (n : ℕ) (cs : List Change) → IsSteady (with_edits_of n cs)
steady-edits n cs a b h = record { version = h.version; link = h.link; class = h.class; asset = h.asset; piece = h.piece; mark = h.mark; ref = h.ref; span = h.span; entered = h.entered; gone = h.gone; edit = IsPermutation-append_right (numbered (λ k (c : Change). edit_row k c.edit) n cs) _ _ h.edit; origin = h.origin }

-- ---- parts in turn

-- rows between others and those that were there
pub between : {X : Type 0} (xs ys zs : List X) → IsPermutation (xs ++ (ys ++ zs)) ((ys ++ xs) ++ zs)
between xs ys zs = subst (λ l. IsPermutation l ((ys ++ xs) ++ zs)) (append_assoc xs ys zs) (IsPermutation-append_left zs _ _ (IsPermutation-append_comm xs ys))

some_behind : {X : Type 0} (xs ys zs us : List X) → IsPermutation (xs ++ zs) us → IsPermutation ((xs ++ ys) ++ zs) (ys ++ us)
some_behind xs ys zs us h =
    IsPermutation-trans _ ((ys ++ xs) ++ zs) _ (IsPermutation-append_left zs _ _ (IsPermutation-append_comm xs ys))
    (subst (λ l. IsPermutation l (ys ++ us)) (sym (append_assoc ys xs zs)) (IsPermutation-append_right ys _ _ h))

rest_rows : {X R : Type 0} (row : X → R) (xs : List X) → map row (drop 1 xs) ≡ drop 1 (map row xs)
rest_rows row [] = refl
rest_rows row (x ∷ xs) = refl

-- the rows of the parts after the first
pub others_are : (c : Change) (parts : List Part) → parts ≡ c.difference.entered → map entered_row (take (length parts - 1) (drop 1 parts)) ≡ other_rows c
others_are c parts is = ap (map entered_row) (take_rest parts 1) ∙ rest_rows entered_row parts ∙ ap (λ ps. drop 1 (map entered_row ps)) is

others_more : (cs : List Change) (c : Change) (parts : List Part) (t u : Tables) → map entered_row parts ≡ other_rows c → AreSame (with_others_of cs t) u → AreSame (with_others_of (cs ++ c ∷ []) t) (with_entered parts u)
others_more cs c parts t u is h =
    let rows = subst (λ l. IsPermutation (l ++ t.entered) (other_rows c ++ u.entered)) (flat_map_more other_rows [] cs c) (some_behind (flat_map other_rows cs) (other_rows c) t.entered u.entered h.entered) in
    record { version = h.version; link = h.link; class = h.class; asset = h.asset; piece = h.piece; mark = h.mark; ref = h.ref; span = h.span; entered = subst (λ l. IsPermutation (flat_map other_rows (cs ++ c ∷ []) ++ t.entered) (l ++ u.entered)) (sym is) rows; gone = h.gone; edit = h.edit; origin = h.origin }

pub puts_more_others : (cs : List Change) (c : Change) (parts : List Part) (a b d : State) → map entered_row parts ≡ other_rows c → Makes (with_others_of cs) a b → Makes (with_entered parts) b d → Makes (with_others_of (cs ++ c ∷ [])) a d
puts_more_others cs c parts a b d is first second = makes_then (with_others_of cs) (with_entered parts) (with_others_of (cs ++ c ∷ [])) a b d (λ t u h. others_more cs c parts t u is h) first second

-- ---- the first parts, and then the others

-- what is split at each
split_each : {X R : Type 0} (rows : X → List R) (xs : List X) → IsPermutation (flat_map rows xs) (flat_map (λ x. drop 1 (rows x)) xs ++ flat_map (λ x. take 1 (rows x)) xs)
split_each rows [] = IsPermutation-refl []
split_each {X} {R} rows (x ∷ xs) =
    let first = take 1 (rows x) in
    let others = drop 1 (rows x) in
    let all_first = flat_map (λ y. take 1 (rows y)) xs in
    let all_others = flat_map (λ y. drop 1 (rows y)) xs in
    let whole : first ++ others ≡ rows x = take-append-drop 1 (rows x) in
    let step : IsPermutation (others ++ flat_map rows xs) ((others ++ all_others) ++ all_first) =
    subst (IsPermutation (others ++ flat_map rows xs)) (sym (append_assoc others all_others all_first)) (IsPermutation-append_right others _ _ (split_each rows xs)) in
    let placed : IsPermutation (first ++ ((others ++ all_others) ++ all_first)) ((others ++ all_others) ++ (first ++ all_first)) =
    subst (IsPermutation (first ++ ((others ++ all_others) ++ all_first))) (append_assoc (others ++ all_others) first all_first) (between first (others ++ all_others) all_first) in
    subst (λ l. IsPermutation (l ++ flat_map rows xs) ((others ++ all_others) ++ (first ++ all_first))) whole
    (subst (λ l. IsPermutation l ((others ++ all_others) ++ (first ++ all_first))) (sym (append_assoc first others (flat_map rows xs)))
    (IsPermutation-trans _ (first ++ ((others ++ all_others) ++ all_first)) _ (IsPermutation-append_right first _ _ step) placed))

both_parts : (cs : List Change) (t u : Tables) → AreSame (with_firsts_of cs t) u → AreSame (with_parts_of cs t) (with_others_of cs u)
both_parts cs t u h =
    let firsts = flat_map first_rows cs in
    let others = flat_map other_rows cs in
    let split : IsPermutation (flat_map entered_rows cs ++ t.entered) ((others ++ firsts) ++ t.entered) = IsPermutation-append_left t.entered _ _ (split_each entered_rows cs) in
    let rows : IsPermutation ((others ++ firsts) ++ t.entered) (others ++ u.entered) = subst (λ l. IsPermutation l (others ++ u.entered)) (sym (append_assoc others firsts t.entered)) (IsPermutation-append_right others _ _ h.entered) in
    record { version = h.version; link = h.link; class = h.class; asset = h.asset; piece = h.piece; mark = h.mark; ref = h.ref; span = h.span; entered = IsPermutation-trans _ _ _ split rows; gone = h.gone; edit = h.edit; origin = h.origin }

pub puts_both_parts : (cs : List Change) (a b d : State) → Makes (with_firsts_of cs) a b → Makes (with_others_of cs) b d → Makes (with_parts_of cs) a d
puts_both_parts cs a b d first second = makes_then (with_firsts_of cs) (with_others_of cs) (with_parts_of cs) a b d (both_parts cs) first second
