-- Why rows come and go one after the other: for the laws of `Written`.
use Rattle.std.proofs.Common.{◌≡◌, ℕ, ◌+◌, Bool, true, false, cond, not, ◌||◌, List, [], ◌∷◌, ◌++◌, map, length, append_assoc, refl, sym, ap, subst, ◌∙◌, arith}
use Rattle.std.specs.Prelude.{filter}
use Rattle.std.specs.List.{list_any}
use Rattle.std.specs.List.Sorted.{IsPermutation}
use Rattle.std.proofs.lemmas.List.{map_push}
use Rattle.std.proofs.lemmas.List.Folds.{list_any-append}
use Rattle.std.proofs.lemmas.List.Sorted.{IsPermutation-refl, IsPermutation-cons, IsPermutation-map, IsPermutation-trans, IsPermutation-middle}
use Rattle.sqlite_keyed.proofs.ListLemmas.{IsPermutation-filter, filter_same, map-map, map_same}
use Rattle.lrs_measure.specs.Texts.{Name, same_name}
use Rattle.lrs_element.specs.declared.link.Piece.{Piece}
use Rattle.lrs_element.specs.declared.marks.Mark.{Mark}
use Rattle.lrs_position.specs.declared.route.Referent.{Referent}
use Rattle.lrs_events.specs.declared.class.Asset.{Asset}
use Rattle.lrs_events.specs.declared.span.Span.{Span}
use Rattle.lrs_events.specs.declared.part.Part.{Part}
use Rattle.lrs_events.specs.declared.part.Gone.{Gone}
use Rattle.lrs_store_tables.specs.Contents.Tables.{Tables, AreSame, RefRow, SpanRow}
use Rattle.lrs_store_tables.specs.Contents.Laws.{origin_row}
use Rattle.lrs_store_tables.specs.Contents.Encoders.{piece_row, mark_row, ref_row, span_row, entered_row, gone_row, numbered}
use Rattle.lrs_store_tables.specs.RowChanges.{with_pieces, with_marks, with_refs, with_spans, with_entered, with_gone, with_origins, has_key_of, less_spans, less_refs, is_ref_of, renamed_refs, renamed_spans}

-- the same rows, as a relation
pub same_refl : (a : Tables) → AreSame a a
same_refl a = record { version = IsPermutation-refl a.version; link = IsPermutation-refl a.link; class = IsPermutation-refl a.class; asset = IsPermutation-refl a.asset; piece = IsPermutation-refl a.piece; mark = IsPermutation-refl a.mark; ref = IsPermutation-refl a.ref; span = IsPermutation-refl a.span; entered = IsPermutation-refl a.entered; gone = IsPermutation-refl a.gone; edit = IsPermutation-refl a.edit; origin = IsPermutation-refl a.origin }

pub same_trans : (a b c : Tables) → AreSame a b → AreSame b c → AreSame a c
same_trans a b c p q = record { version = IsPermutation-trans _ _ _ p.version q.version; link = IsPermutation-trans _ _ _ p.link q.link; class = IsPermutation-trans _ _ _ p.class q.class; asset = IsPermutation-trans _ _ _ p.asset q.asset; piece = IsPermutation-trans _ _ _ p.piece q.piece; mark = IsPermutation-trans _ _ _ p.mark q.mark; ref = IsPermutation-trans _ _ _ p.ref q.ref; span = IsPermutation-trans _ _ _ p.span q.span; entered = IsPermutation-trans _ _ _ p.entered q.entered; gone = IsPermutation-trans _ _ _ p.gone q.gone; edit = IsPermutation-trans _ _ _ p.edit q.edit; origin = IsPermutation-trans _ _ _ p.origin q.origin }

-- one more row behind others, and in front of them
pub one_behind : {X : Type 0} (xs : List X) (x : X) (ys zs : List X) → IsPermutation (xs ++ ys) zs → IsPermutation ((xs ++ x ∷ []) ++ ys) (x ∷ zs)
one_behind xs x ys zs h =
    subst (λ l. IsPermutation l (x ∷ zs)) (sym (append_assoc xs (x ∷ []) ys)) (IsPermutation-trans _ _ _ (IsPermutation-middle xs x ys) (IsPermutation-cons x _ _ h))

behind : {X : Type 0} {all : List X} (xs : List X) (x : X) (ys zs : List X) → all ≡ xs ++ x ∷ [] → IsPermutation (xs ++ ys) zs → IsPermutation (all ++ ys) (x ∷ zs)
behind xs x ys zs e h = subst (λ l. IsPermutation (l ++ ys) (x ∷ zs)) (sym e) (one_behind xs x ys zs h)

numbered_more : {X Row : Type 0} (row : ℕ → X → Row) (n k : ℕ) (xs : List X) (x : X) → k ≡ n + length xs → numbered row n (xs ++ x ∷ []) ≡ numbered row n xs ++ row k x ∷ []
numbered_more row n k [] x e = let same : n ≡ k = omega (arith, e) in ap (λ m. row m x ∷ []) same
numbered_more row n k (y ∷ ys) x e = ap (λ rows. row n y ∷ rows) (numbered_more row (n + 1) k ys x (omega (arith, e)))

pub pieces_more : (route : Name) (n k : ℕ) (xs : List Piece) (x : Piece) (t u : Tables) → k ≡ n + length xs → AreSame (with_pieces route n xs t) u → AreSame (with_pieces route n (xs ++ x ∷ []) t) (with_pieces route k (x ∷ []) u)
pieces_more route n k xs x t u e h =
    record { version = h.version; link = h.link; class = h.class; asset = h.asset; piece = behind (numbered (piece_row route) n xs) (piece_row route k x) t.piece u.piece (numbered_more (piece_row route) n k xs x e) h.piece; mark = h.mark; ref = h.ref; span = h.span; entered = h.entered; gone = h.gone; edit = h.edit; origin = h.origin }

pub marks_more : (route : Name) (n k : ℕ) (xs : List Mark) (x : Mark) (t u : Tables) → k ≡ n + length xs → AreSame (with_marks route n xs t) u → AreSame (with_marks route n (xs ++ x ∷ []) t) (with_marks route k (x ∷ []) u)
marks_more route n k xs x t u e h =
    record { version = h.version; link = h.link; class = h.class; asset = h.asset; piece = h.piece; mark = behind (numbered (mark_row route) n xs) (mark_row route k x) t.mark u.mark (numbered_more (mark_row route) n k xs x e) h.mark; ref = h.ref; span = h.span; entered = h.entered; gone = h.gone; edit = h.edit; origin = h.origin }

pub refs_more : (route : Name) (xs : List Referent) (x : Referent) (t u : Tables) → AreSame (with_refs route xs t) u → AreSame (with_refs route (xs ++ x ∷ []) t) (with_refs route (x ∷ []) u)
refs_more route xs x t u h =
    record { version = h.version; link = h.link; class = h.class; asset = h.asset; piece = h.piece; mark = h.mark; ref = behind (map (ref_row route) xs) (ref_row route x) t.ref u.ref (map_push (ref_row route) xs x) h.ref; span = h.span; entered = h.entered; gone = h.gone; edit = h.edit; origin = h.origin }

pub spans_more : (route : Name) (xs : List Span) (x : Span) (t u : Tables) → AreSame (with_spans route xs t) u → AreSame (with_spans route (xs ++ x ∷ []) t) (with_spans route (x ∷ []) u)
spans_more route xs x t u h =
    record { version = h.version; link = h.link; class = h.class; asset = h.asset; piece = h.piece; mark = h.mark; ref = h.ref; span = behind (map (span_row route) xs) (span_row route x) t.span u.span (map_push (span_row route) xs x) h.span; entered = h.entered; gone = h.gone; edit = h.edit; origin = h.origin }

pub entered_more : (xs : List Part) (x : Part) (t u : Tables) → AreSame (with_entered xs t) u → AreSame (with_entered (xs ++ x ∷ []) t) (with_entered (x ∷ []) u)
entered_more xs x t u h =
    record { version = h.version; link = h.link; class = h.class; asset = h.asset; piece = h.piece; mark = h.mark; ref = h.ref; span = h.span; entered = behind (map entered_row xs) (entered_row x) t.entered u.entered (map_push entered_row xs x) h.entered; gone = h.gone; edit = h.edit; origin = h.origin }

pub gone_more : (xs : List Gone) (x : Gone) (t u : Tables) → AreSame (with_gone xs t) u → AreSame (with_gone (xs ++ x ∷ []) t) (with_gone (x ∷ []) u)
gone_more xs x t u h =
    record { version = h.version; link = h.link; class = h.class; asset = h.asset; piece = h.piece; mark = h.mark; ref = h.ref; span = h.span; entered = h.entered; gone = behind (map gone_row xs) (gone_row x) t.gone u.gone (map_push gone_row xs x) h.gone; edit = h.edit; origin = h.origin }

pub origins_more : (xs : List Asset) (x : Asset) (t u : Tables) → AreSame (with_origins xs t) u → AreSame (with_origins (xs ++ x ∷ []) t) (with_origins (x ∷ []) u)
origins_more xs x t u h =
    record { version = h.version; link = h.link; class = h.class; asset = h.asset; piece = h.piece; mark = h.mark; ref = h.ref; span = h.span; entered = h.entered; gone = h.gone; edit = h.edit; origin = behind (map origin_row xs) (origin_row x) t.origin u.origin (map_push origin_row xs x) h.origin }

-- ---- removed rows

-- to filter twice
both_step : {X : Type 0} (p q : X → Bool) (r : X) (rs : List X) (a : Bool) → filter (λ x. not (q x)) (filter (λ x. not (p x)) rs) ≡ filter (λ x. not (p x || q x)) rs
    → filter (λ x. not (q x)) (cond (not a) (r ∷ filter (λ x. not (p x)) rs) (filter (λ x. not (p x)) rs)) ≡ cond (not (a || q r)) (r ∷ filter (λ x. not (p x || q x)) rs) (filter (λ x. not (p x || q x)) rs)
both_step p q r rs true e = e
both_step p q r rs false e = ap (λ xs. cond (not (q r)) (r ∷ xs) xs) e

pub both_filters : {X : Type 0} (p q : X → Bool) (rows : List X) → filter (λ r. not (q r)) (filter (λ r. not (p r)) rows) ≡ filter (λ r. not (p r || q r)) rows
both_filters p q [] = refl
both_filters p q (r ∷ rs) = both_step p q r rs (p r) (both_filters p q rs)

pub none_out : {X : Type 0} (rows : List X) → filter (λ r. not false) rows ≡ rows
none_out [] = refl
none_out (r ∷ rs) = ap (λ xs. r ∷ xs) (none_out rs)

-- one more that takes rows away
one_less : {A X : Type 0} (has : A → X → Bool) (as_ : List A) (a : A) (rows left : List X) → IsPermutation (filter (λ r. not (list_any (λ s. has s r) as_)) rows) left
    → IsPermutation (filter (λ r. not (list_any (λ s. has s r) (as_ ++ a ∷ []))) rows) (filter (λ r. not (list_any (λ s. has s r) (a ∷ []))) left)
one_less {A} {X} has as_ a rows left h =
    let p : X → Bool = λ r. list_any (λ s. has s r) as_ in
    let q : X → Bool = λ r. list_any (λ s. has s r) (a ∷ []) in
    let same = both_filters p q rows ∙ filter_same (λ r. not (p r || q r)) (λ r. not (list_any (λ s. has s r) (as_ ++ a ∷ []))) (λ r. ap not (sym (list_any-append (λ s. has s r) as_ (a ∷ [])))) rows in
    subst (λ l. IsPermutation l (filter (λ r. not (q r)) left)) same (IsPermutation-filter (λ r. not (q r)) _ left h)

pub none_less : {X : Type 0} (rows : List X) → IsPermutation (filter (λ r. not false) rows) rows
none_less rows = subst (λ l. IsPermutation l rows) (sym (none_out rows)) (IsPermutation-refl rows)

pub no_less_spans : (route : Name) (t : Tables) → AreSame (less_spans route [] t) t
no_less_spans route t = record { version = IsPermutation-refl t.version; link = IsPermutation-refl t.link; class = IsPermutation-refl t.class; asset = IsPermutation-refl t.asset; piece = IsPermutation-refl t.piece; mark = IsPermutation-refl t.mark; ref = IsPermutation-refl t.ref; span = none_less t.span; entered = IsPermutation-refl t.entered; gone = IsPermutation-refl t.gone; edit = IsPermutation-refl t.edit; origin = IsPermutation-refl t.origin }

pub no_less_refs : (t : Tables) → AreSame (less_refs [] t) t
no_less_refs t = record { version = IsPermutation-refl t.version; link = IsPermutation-refl t.link; class = IsPermutation-refl t.class; asset = IsPermutation-refl t.asset; piece = IsPermutation-refl t.piece; mark = IsPermutation-refl t.mark; ref = none_less t.ref; span = IsPermutation-refl t.span; entered = IsPermutation-refl t.entered; gone = IsPermutation-refl t.gone; edit = IsPermutation-refl t.edit; origin = IsPermutation-refl t.origin }

pub less_spans_more : (route : Name) (xs : List Span) (x : Span) (t u : Tables) → AreSame (less_spans route xs t) u → AreSame (less_spans route (xs ++ x ∷ []) t) (less_spans route (x ∷ []) u)
less_spans_more route xs x t u h =
    record { version = h.version; link = h.link; class = h.class; asset = h.asset; piece = h.piece; mark = h.mark; ref = h.ref; span = one_less (has_key_of route) xs x t.span u.span h.span; entered = h.entered; gone = h.gone; edit = h.edit; origin = h.origin }

pub less_refs_more : (xs : List Name) (x : Name) (t u : Tables) → AreSame (less_refs xs t) u → AreSame (less_refs (xs ++ x ∷ []) t) (less_refs (x ∷ []) u)
less_refs_more xs x t u h =
    record { version = h.version; link = h.link; class = h.class; asset = h.asset; piece = h.piece; mark = h.mark; ref = one_less (λ name r. same_name r.name name) xs x t.ref u.ref h.ref; span = h.span; entered = h.entered; gone = h.gone; edit = h.edit; origin = h.origin }

-- ---- renamed rows

-- A row that was renamed stays what it is under a further change to the same name.
renamed_twice : {X : Type 0} (change : X → X) (q : X → Bool) (r : X) → change (change r) ≡ change r → (p : Bool) → cond (q (cond p (change r) r)) (change (cond p (change r) r)) (cond p (change r) r) ≡ cond (p || q r) (change r) r
renamed_twice change q r once true = by (q (change r))
  where
    by : (b : Bool) → cond b (change (change r)) (change r) ≡ change r
    by true = once
    by false = refl
renamed_twice change q r once false = refl

-- one more whose rows change
one_changed : {A X : Type 0} (has : A → X → Bool) (change : X → X) → ((r : X) → change (change r) ≡ change r) → (as_ : List A) (a : A) (rows left : List X) → IsPermutation (map (λ r. cond (list_any (λ s. has s r) as_) (change r) r) rows) left
    → IsPermutation (map (λ r. cond (list_any (λ s. has s r) (as_ ++ a ∷ [])) (change r) r) rows) (map (λ r. cond (list_any (λ s. has s r) (a ∷ [])) (change r) r) left)
one_changed {A} {X} has change once as_ a rows left h =
    let p : X → Bool = λ r. list_any (λ s. has s r) as_ in
    let q : X → Bool = λ r. list_any (λ s. has s r) (a ∷ []) in
    let first : X → X = λ r. cond (p r) (change r) r in
    let second : X → X = λ r. cond (q r) (change r) r in
    let both : X → X = λ r. cond (list_any (λ s. has s r) (as_ ++ a ∷ [])) (change r) r in
    let same = map-map second first rows ∙ map_same (λ r. second (first r)) both (λ r. renamed_twice change q r (once r) (p r) ∙ ap (λ b. cond b (change r) r) (sym (list_any-append (λ s. has s r) as_ (a ∷ [])))) rows in
    subst (λ l. IsPermutation l (map second left)) same (IsPermutation-map second _ left h)

none_changed : {X : Type 0} (rows : List X) → IsPermutation (map (λ r. r) rows) rows
none_changed {X} rows = subst (λ l. IsPermutation l rows) (sym (same rows)) (IsPermutation-refl rows)
  where
    same : (xs : List X) → map (λ r. r) xs ≡ xs
    same [] = refl
    same (x ∷ xs) = ap (λ ys. x ∷ ys) (same xs)

pub no_renamed_refs : (old new : Name) (t : Tables) → AreSame (renamed_refs old new [] t) t
no_renamed_refs old new t = record { version = IsPermutation-refl t.version; link = IsPermutation-refl t.link; class = IsPermutation-refl t.class; asset = IsPermutation-refl t.asset; piece = IsPermutation-refl t.piece; mark = IsPermutation-refl t.mark; ref = none_changed t.ref; span = IsPermutation-refl t.span; entered = IsPermutation-refl t.entered; gone = IsPermutation-refl t.gone; edit = IsPermutation-refl t.edit; origin = IsPermutation-refl t.origin }

pub no_renamed_spans : (old new : Name) (t : Tables) → AreSame (renamed_spans old new [] t) t
no_renamed_spans old new t = record { version = IsPermutation-refl t.version; link = IsPermutation-refl t.link; class = IsPermutation-refl t.class; asset = IsPermutation-refl t.asset; piece = IsPermutation-refl t.piece; mark = IsPermutation-refl t.mark; ref = IsPermutation-refl t.ref; span = none_changed t.span; entered = IsPermutation-refl t.entered; gone = IsPermutation-refl t.gone; edit = IsPermutation-refl t.edit; origin = IsPermutation-refl t.origin }

pub renamed_refs_more : (old new : Name) (xs : List Name) (x : Name) (t u : Tables) → AreSame (renamed_refs old new xs t) u → AreSame (renamed_refs old new (xs ++ x ∷ []) t) (renamed_refs old new (x ∷ []) u)
renamed_refs_more old new xs x t u h =
    let one = one_changed (is_ref_of old) (λ (r : RefRow). record r { route = new }) (λ r. refl) xs x t.ref u.ref h.ref in
    record { version = h.version; link = h.link; class = h.class; asset = h.asset; piece = h.piece; mark = h.mark; ref = one; span = h.span; entered = h.entered; gone = h.gone; edit = h.edit; origin = h.origin }

pub renamed_spans_more : (old new : Name) (xs : List Span) (x : Span) (t u : Tables) → AreSame (renamed_spans old new xs t) u → AreSame (renamed_spans old new (xs ++ x ∷ []) t) (renamed_spans old new (x ∷ []) u)
renamed_spans_more old new xs x t u h =
    let one = one_changed (has_key_of old) (λ (r : SpanRow). record r { route = new }) (λ r. refl) xs x t.span u.span h.span in
    record { version = h.version; link = h.link; class = h.class; asset = h.asset; piece = h.piece; mark = h.mark; ref = h.ref; span = one; entered = h.entered; gone = h.gone; edit = h.edit; origin = h.origin }
