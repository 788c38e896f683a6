-- What a change makes of rows.
use Rattle.std.proofs.Common.{◌≡◌, Bool, true, false, cond, ◌⊎◌, inl, inr, List, [], ◌∷◌, refl, sym, ◌∙◌, arith}
use Rattle.std.proofs.lemmas.Bool.{and_parts, cases_Bool}
use Rattle.std.specs.Prelude.{◌||◌, ◌&&◌, not}
use Rattle.std.specs.List.{list_any, list_all}
use Rattle.lrs_measure.specs.Lists.{In, each_two}
use Rattle.lrs_measure.specs.OrderedLists.{insert_by, insert_all}
use Rattle.lrs_measure.proofs.Filters.{each_two-filter}
use Rattle.lrs_events.specs.declared.span.Span.{Span}
use Rattle.lrs_events.specs.Spans.{are_rows, is_row, span_before, are_apart}
use Rattle.lrs_events.specs.Changes.{changed, same_row, has_row, without_rows}
use Rattle.lrs_events.specs.Row.Changes.{IsChange, missing}
use Rattle.lrs_events.proofs.Row.Unique.{less_one}
use Rattle.lrs_events.proofs.Row.Rows.{BeginsFirst, begins_class, begins_asset, begins_start, begins_first, first_begins}
use Rattle.lrs_events.proofs.Row.Places.{begins_trans}
use Rattle.lrs_events.proofs.Row.Sorted.{IsStrict, one_list, put_all}
use Rattle.lrs_events.proofs.Row.Differing.{one_row, has_found, has_in, in_missing, missing_in, differ}

begins_itself : (r : Span) → BeginsFirst r r → ⊥
begins_itself r (begins_class h) = less_one r.class r.class h refl
begins_itself r (begins_asset c h) = omega (arith, h)
begins_itself r (begins_start c a h) = omega (arith, h)

pub spans_strict : IsStrict span_before
spans_strict = record {
  never_both = λ x y h k. begins_itself x (begins_trans x y x (begins_first x y h) (begins_first y x k));
  through = λ x y z h k. first_begins x z (begins_trans x y z (begins_first x y h) (begins_first y z k));
}

pub rows_sorted : (rows : List Span) → are_rows rows ≡ true → each_two span_before rows ≡ true
rows_sorted rows h = (and_parts (list_all is_row rows) (each_two span_before rows) (and_parts (list_all is_row rows && each_two span_before rows) (each_two are_apart rows) h).0).1

-- where rows differ by the removed and the inserted ones, the change makes the ones of the others
pub changed_is : (old gone come new : List Span) → are_rows old ≡ true → are_rows new ≡ true → each_two span_before come ≡ true → IsChange old gone come new → changed span_before gone come old ≡ new
changed_is old gone come new h k s c =
    let put = put_all span_before spans_strict new come (without_rows gone old) (rows_sorted new k) s (each_two-filter span_before _ old (rows_sorted old h))
    (λ r m. (c.rows r).1 (inr m)) (λ r m. let q = in_missing gone old r m in (c.rows r).1 (inl q)) (λ r m n. c.fresh r m (in_missing gone old r n).0) in
    one_list span_before spans_strict (changed span_before gone come old) new put.in_order (rows_sorted new k) (λ r m. (c.rows r).1 (back r (put.from r m))) (λ r m. put.to r (forth r ((c.rows r).0 m)))
  where
    back : (r : Span) → In r come ⊎ In r (without_rows gone old) → (In r old × (In r gone → ⊥)) ⊎ In r come
    back r (inl m) = inr m
    back r (inr m) = inl (in_missing gone old r m)

    forth : (r : Span) → (In r old × (In r gone → ⊥)) ⊎ In r come → In r come ⊎ In r (without_rows gone old)
    forth r (inl m) = inr (missing_in gone old r m.0 m.1)
    forth r (inr m) = inl m

-- the difference of rows makes the ones of the others
pub differ_makes : (old new gone come : List Span) → are_rows old ≡ true → are_rows new ≡ true → gone ≡ missing new old → come ≡ missing old new → changed span_before gone come old ≡ new
differ_makes old new gone come h k g c =
    (λ i. changed span_before (g i) (c i) old)
    ∙ changed_is old (missing new old) (missing old new) new h k (each_two-filter span_before _ new (rows_sorted new k)) (differ old new)

-- ---- the same as tests

pub any_insert : {X : Type 0} (p : X → Bool) (before : X → X → Bool) (x : X) (ys : List X) → list_any p (insert_by before x ys) ≡ (p x || list_any p ys)
any_insert p before x [] = refl
any_insert p before x (y ∷ ys) = by (before x y) (any_insert p before x ys)
  where
    turned : (a b c : Bool) → (a || (b || c)) ≡ (b || (a || c))
    turned true true c = refl
    turned true false c = refl
    turned false b c = refl

    by : (b : Bool) → list_any p (insert_by before x ys) ≡ (p x || list_any p ys) → list_any p (cond b (x ∷ y ∷ ys) (y ∷ insert_by before x ys)) ≡ (p x || (p y || list_any p ys))
    by true e = refl
    by false e = (λ i. p y || e i) ∙ turned (p y) (p x) (list_any p ys)

pub any_insert_all : {X : Type 0} (p : X → Bool) (before : X → X → Bool) (xs ys : List X) → list_any p (insert_all before xs ys) ≡ (list_any p ys || list_any p xs)
any_insert_all p before [] ys = sym (or_nothing (list_any p ys))
  where
    or_nothing : (b : Bool) → (b || false) ≡ b
    or_nothing true = refl
    or_nothing false = refl
any_insert_all p before (x ∷ xs) ys = any_insert_all p before xs (insert_by before x ys) ∙ (λ i. any_insert p before x ys i || list_any p xs) ∙ turned (p x) (list_any p ys) (list_any p xs)
  where
    turned : (a b c : Bool) → ((a || b) || c) ≡ (b || (a || c))
    turned true true c = refl
    turned true false c = refl
    turned false b c = refl

-- whatever the change: a row is there afterwards where it was and does not go, or where it comes
pub changed_has : (before : Span → Span → Bool) (gone come rows : List Span) (r : Span) → has_row (changed before gone come rows) r ≡ ((has_row rows r && not (has_row gone r)) || has_row come r)
changed_has before gone come rows r = any_insert_all (λ s. same_row s r) before come (without_rows gone rows) ∙ (λ i. without_has rows i || has_row come r)
  where
    with_head : (b a t : Bool) → ((b && t) || (a && t)) ≡ ((b || a) && t)
    with_head true a true = refl
    with_head true true false = refl
    with_head true false false = refl
    with_head false a t = refl

    one : (s : Span) → (b : Bool) → b ≡ same_row s r → (b && not (has_row gone s)) ≡ (b && not (has_row gone r))
    one s true e = λ i. not (has_row gone (one_row s r (sym e) i))
    one s false e = refl

    put : (b t u : Bool) → (b ≡ true → t ≡ u) → (b && t) ≡ (b && u)
    put true t u h = h refl
    put false t u h = refl

    head : (s : Span) (ss : List Span) (g : Bool) → g ≡ has_row gone s → list_any (λ q. same_row q r) (cond (not g) (s ∷ without_rows gone ss) (without_rows gone ss)) ≡ ((same_row s r && not g) || has_row (without_rows gone ss) r)
    head s ss true e = sym (λ i. nothing (same_row s r) i || has_row (without_rows gone ss) r)
      where
        nothing : (b : Bool) → (b && false) ≡ false
        nothing true = refl
        nothing false = refl
    head s ss false e = λ i. sym (all (same_row s r)) i || has_row (without_rows gone ss) r
      where
        all : (b : Bool) → (b && true) ≡ b
        all true = refl
        all false = refl

    without_has : (ss : List Span) → has_row (without_rows gone ss) r ≡ (has_row ss r && not (has_row gone r))
    without_has [] = refl
    without_has (s ∷ ss) =
        head s ss (has_row gone s) refl
        ∙ (λ i. one s (same_row s r) refl i || without_has ss i)
        ∙ with_head (same_row s r) (has_row ss r) (not (has_row gone r))

-- what is removed was there, and what is inserted was not
pub gone_were : (old gone come new : List Span) → IsChange old gone come new → (r : Span) → has_row gone r ≡ true → has_row old r ≡ true
gone_were old gone come new c r h = has_in old r (c.were r (has_found gone r h))

pub come_fresh : (old gone come new : List Span) → IsChange old gone come new → (r : Span) → has_row come r ≡ true → has_row old r ≡ false
come_fresh old gone come new c r h = by (cases_Bool (has_row old r))
  where
    by : (has_row old r ≡ true) ⊎ (has_row old r ≡ false) → has_row old r ≡ false
    by (inl e) = absurd (c.fresh r (has_found come r h) (has_found old r e))
    by (inr e) = e
