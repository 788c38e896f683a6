-- What is written of edits.
use Rattle.std.proofs.Common.{◌≡◌, ℕ, suc, zero, ◌+◌, ◌-◌, ◌<◌, Bool, true, false, cond, Option, Some, None, Result, Ok, Err, List, [], ◌∷◌, ◌++◌, length, take, drop, map, replicate, get_or, min, refl, sym, ap, subst, ◌∙◌, append_assoc, append-nil, arith}
use Rattle.std.specs.Prelude.{◌==◌, ◌||◌, OnOk, IfOk, codes, count_by, if◌then◌else◌}
use Rattle.std.specs.List.{flat_map, join_with_byte, list_any}
use Rattle.std.specs.Io.KnownBytes.{Appends}
use Rattle.std.proofs.lemmas.List.{drop-map, drop-replicate, take-map}
use Rattle.std.proofs.lemmas.List.Folds.{flat_map-map, list_any_more}
use Rattle.std.proofs.lemmas.List.Splits.{join_with_byte-slice_split, length-slice_split}
use Rattle.lrs_measure.specs.Texts.{Name, same_name}
use Rattle.lrs_machine.specs.Image.{state_of}
use Rattle.lrs_machine.specs.Lines.{Text, fields}
use Rattle.lrs_machine.specs.State.{Edit}
use Rattle.lrs_machine.specs.declared.image.Edit.{Edit as EditRow}
use Rattle.lrs_machine.specs.declared.image.Image.{Image}
use Rattle.lrs_sheet_records.specs.Words.{parts_of}
use Rattle.lrs_sheet_log.specs.Log.{edit_of_row, edits_between, edits_under, log_line, padded, row_line, up_to}

-- one write after another
pub appends-more : (a b c : Option (List ℕ)) (xs ys : List ℕ) → Appends a b xs → Appends b c ys → Appends a c (xs ++ ys)
appends-more None b c xs ys h k = tt
appends-more (Some u) None c xs ys h k = absurd h
appends-more (Some u) (Some v) None xs ys h k = absurd k
appends-more (Some u) (Some v) (Some w) xs ys h k = k ∙ ap (λ z. z ++ ys) h ∙ append_assoc u xs ys

-- what a write appends, said otherwise
pub as-text : {A E : Type 0} (r : Result A E) (a b : Option (List ℕ)) (xs ys : List ℕ) → OnOk r (Appends a b xs) → xs ≡ ys → OnOk r (Appends a b ys)
as-text (Ok x) a b xs ys h e = subst (λ (t : List ℕ). Appends a b t) e h
as-text (Err x) a b xs ys h e = tt

-- what a last write appends behind others, where it succeeds
pub appends-last : {A E : Type 0} (r : Result A E) (a b c : Option (List ℕ)) (xs ys zs : List ℕ) → Appends a b xs → OnOk r (Appends b c ys) → xs ++ ys ≡ zs → OnOk r (Appends a c zs)
appends-last (Ok x) a b c xs ys zs h k e = subst (Appends a c) e (appends-more a b c xs ys h k)
appends-last (Err x) a b c xs ys zs h k e = tt

-- what one more element adds
flat_map-next : {A : Type 0} (f : A → List ℕ) (i : ℕ) (xs : List A) (x : A) → i < length xs → x ≡ get_or xs i x → flat_map f (take i xs) ++ f x ≡ flat_map f (take (suc i) xs)
flat_map-next f zero [] x h e = absurd (omega (arith, h))
flat_map-next f zero (y ∷ ys) x h e = ap f e ∙ sym (append-nil (f y))
flat_map-next f (suc i) [] x h e = absurd (omega (arith, h))
flat_map-next f (suc i) (y ∷ ys) x h e = append_assoc (f y) (flat_map f (take i ys)) (f x) ∙ ap (λ z. f y ++ z) (flat_map-next f i ys x (omega (arith, h)) e)

-- the text of one more element behind those of the elements before it
pub appends-next : {A : Type 0} (text : A → List ℕ) (i : ℕ) (xs : List A) (x : A) (a b c : Option (List ℕ)) → i < length xs → x ≡ get_or xs i x
    → Appends a b (flat_map text (take i xs)) → Appends b c (text x) → Appends a c (flat_map text (take (i + 1) xs))
appends-next text i xs x a b c low is before one =
    let n : suc i ≡ i + 1 = omega arith in
    let next = flat_map-next text i xs x low is ∙ ap (λ k. flat_map text (take k xs)) n in
    subst (λ (t : List ℕ). Appends a c t) next (appends-more a b c (flat_map text (take i xs)) (text x) before one)

-- nine commas without the first ones
pub commas-left : (n : ℕ) → drop (min n 9) (codes ",,,,,,,,,") ≡ replicate (9 - n) 44
commas-left n = drop-replicate (min n 9) 9 44 ∙ ap (λ k. replicate k 44) (omega arith)

-- one text before joined ones
joined-behind : (c : ℕ) (x : Text) (xs : List Text) → 0 < length xs → join_with_byte c (x ∷ xs) ≡ x ++ c ∷ join_with_byte c xs
joined-behind c x [] some = absurd (omega (arith, some))
joined-behind c x (y ∷ ys) some = refl

-- empty texts behind others add what stands between
joined-padded : (c : ℕ) (x : Text) (xs : List Text) (n : ℕ) → join_with_byte c (x ∷ (xs ++ replicate n [])) ≡ join_with_byte c (x ∷ xs) ++ replicate n c
joined-padded c x [] zero = sym (append-nil x)
joined-padded c x [] (suc n) = ap (λ (t : Text). x ++ c ∷ t) (joined-padded c [] [] n)
joined-padded c x (y ∷ ys) n = ap (λ (t : Text). x ++ c ∷ t) (joined-padded c y ys n) ∙ sym (append_assoc x (c ∷ join_with_byte c (y ∷ ys)) (replicate n c))

line-at : (width : ℕ) (key line : Text) → width ≡ 11
    → fields (padded width (key ∷ parts_of 44 line)) ++ 10 ∷ [] ≡ key ++ 44 ∷ (line ++ (replicate (9 - count_by (λ byte. byte == 44) line) 44 ++ 10 ∷ []))
line-at width key line is =
    let parts = parts_of 44 line in
    let some = length-slice_split (λ (byte : ℕ). byte == 44) line in
    let n = width - length (key ∷ parts) in
    let many : n ≡ 9 - count_by (λ byte. byte == 44) line = omega (arith, is, some) in
    let whole : fields (padded width (key ∷ parts)) ≡ (key ++ 44 ∷ line) ++ replicate n 44 =
    joined-padded 44 key parts n ∙ ap (λ (t : Text). t ++ replicate n 44) (joined-behind 44 key parts (omega (arith, some)) ∙ ap (λ (t : Text). key ++ 44 ∷ t) (join_with_byte-slice_split 44 line)) in
    ap (λ (t : Text). t ++ 10 ∷ []) whole
    ∙ append_assoc (key ++ 44 ∷ line) (replicate n 44) (10 ∷ [])
    ∙ append_assoc key (44 ∷ line) (replicate n 44 ++ 10 ∷ [])
    ∙ ap (λ (k : ℕ). key ++ 44 ∷ (line ++ (replicate k 44 ++ 10 ∷ []))) many

-- the line of a row: its key, its line, and a comma for each empty field
pub row-written : (row : EditRow) → row.key ++ 44 ∷ (row.line ++ (replicate (9 - count_by (λ byte. byte == 44) row.line) 44 ++ 10 ∷ [])) ≡ row_line row
row-written row = sym (line-at 11 row.key row.line refl)

-- the lines of rows are those of the edits that they stand for
up_to-map : (until : Option ℕ) (rows : List EditRow) → up_to until (map edit_of_row rows) ≡ map edit_of_row (up_to until rows)
up_to-map None rows = refl
up_to-map (Some number) rows = take-map edit_of_row number rows

pub rows-between : (i : Image) (from : ℕ) (until : Option ℕ) → flat_map row_line (drop (from - 1) (up_to until i.edits)) ≡ flat_map log_line (edits_between from until (state_of i).done)
unfolding state_of
rows-between i from until =
    let rows = up_to until i.edits in
    sym (ap (λ (es : List Edit). flat_map log_line (drop (from - 1) es)) (up_to-map until i.edits) ∙ ap (flat_map log_line) (drop-map edit_of_row (from - 1) rows) ∙ flat_map-map log_line edit_of_row (drop (from - 1) rows))

-- the line of a row if it has this key
abbrev pub line_under : Name → EditRow → Text
line_under key row = if same_name row.key key then row_line row else []

under : (key : Name) (rows : List EditRow) → flat_map (line_under key) rows ≡ flat_map log_line (edits_under key (map edit_of_row rows))
under key [] = refl
under key (row ∷ rows) = elim (same_name row.key key) as (λ b. cond b (row_line row) [] ++ flat_map (line_under key) rows ≡ flat_map log_line (cond b (edit_of_row row ∷ edits_under key (map edit_of_row rows)) (edits_under key (map edit_of_row rows)))) [
  | true ↦ ap (λ (t : Text). row_line row ++ t) (under key rows)
  | false ↦ under key rows
]

pub rows-under : (i : Image) (key : Name) → flat_map (line_under key) i.edits ≡ flat_map log_line (edits_under key (state_of i).done)
unfolding state_of
rows-under i key = under key i.edits

any-row : (key : Name) (rows : List EditRow) → list_any (λ row. same_name row.key key) rows ≡ list_any (λ e. same_name e.key key) (map edit_of_row rows)
any-row key [] = refl
any-row key (row ∷ rows) = ap (λ (b : Bool). same_name row.key key || b) (any-row key rows)

pub any-under : (i : Image) (key : Name) → list_any (λ row. same_name row.key key) i.edits ≡ list_any (λ e. same_name e.key key) (state_of i).done
unfolding state_of
any-under i key = any-row key i.edits

row-count : (row : EditRow) (line : Text) → line ≡ row.line → row.key ++ 44 ∷ (row.line ++ (replicate (9 - count_by (λ byte. byte == 44) line) 44 ++ 10 ∷ [])) ≡ row.key ++ 44 ∷ (row.line ++ (replicate (9 - count_by (λ byte. byte == 44) row.line) 44 ++ 10 ∷ []))
row-count row line l = ap (λ (t : Text). row.key ++ 44 ∷ (row.line ++ (replicate (9 - count_by (λ byte. byte == 44) t) 44 ++ 10 ∷ []))) l

-- what is written of a row is its line
pub row-as : (row : EditRow) (key line behind : Text) → key ≡ row.key → line ≡ row.line → behind ≡ replicate (9 - count_by (λ byte. byte == 44) line) 44 → key ++ 44 ∷ (line ++ (behind ++ 10 ∷ [])) ≡ row_line row
row-as row key line behind k l b = (λ i. k i ++ 44 ∷ (l i ++ (b i ++ 10 ∷ []))) ∙ row-count row line l ∙ row-written row

-- whether one more element, or one before it, passes a test
pub any-next : {A : Type 0} (p : A → Bool) (i : ℕ) (xs : List A) (x : A) (before one after : Bool) → i < length xs → x ≡ get_or xs i x → before ≡ list_any p (take i xs) → one ≡ p x → after ≡ (before || one) → after ≡ list_any p (take (i + 1) xs)
any-next p i xs x before one after low is b o e = e ∙ (λ j. b j || (o ∙ ap p is) j) ∙ sym (list_any_more p xs i x low)

-- a test that is said otherwise
pub ok-as : {E : Type 0} (r : Result Bool E) (a b : Bool) → IfOk r (λ found. found ≡ a) → a ≡ b → IfOk r (λ found. found ≡ b)
ok-as (Ok x) a b h e = h ∙ e
ok-as (Err x) a b h e = tt
