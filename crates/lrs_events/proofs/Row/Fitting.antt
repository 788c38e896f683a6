-- What a change makes of rows, where the inserted rows fit those that stay.
use Rattle.std.proofs.Common.{◌≡◌, ◌<◌, Bool, true, false, cond, ◌⊎◌, inl, inr, List, [], ◌∷◌, ◌++◌, refl, sym, subst, arith}
use Rattle.std.specs.Prelude.{not}
use Rattle.std.specs.List.{list_all}
use Rattle.lrs_measure.specs.Lists.{In, each_two}
use Rattle.std.proofs.lemmas.Bool.{both_ways, cases_order, and_parts, and_from}
use Rattle.lrs_measure.specs.OrderedLists.{insert_by, insert_all}
use Rattle.lrs_measure.proofs.Members.{all_at, all_of, In-append_cases}
use Rattle.lrs_measure.proofs.Insertions.{In-insert, In-insert_all, insert_all-In}
use Rattle.lrs_events.specs.declared.span.Span.{Span}
use Rattle.lrs_events.specs.Spans.{span_before}
use Rattle.lrs_events.specs.Changes.{has_row, without_rows, changed}
use Rattle.lrs_events.specs.Row.Order.{by_class, by_asset}
use Rattle.lrs_events.specs.Row.Changes.{IsChange}
use Rattle.lrs_events.proofs.Row.Unique.{less_one, less_both}
use Rattle.lrs_events.proofs.Row.Rows.{rows_from, rows_are, IsFull, IsAhead, Pairs, AreRows, BeginsFirst, begins_class, begins_asset, begins_start, begins_first, left_first, ahead_before, left_trans, NameCases, name_cases, before, same, behind}
use Rattle.lrs_events.proofs.Row.Differing.{in_missing, missing_in}
use Rattle.lrs_events.proofs.Row.Replaced.{found_rows}

-- two tests that tell each other are one
pub one_test : (a b : Bool) → (a ≡ true → b ≡ true) → (b ≡ true → a ≡ true) → a ≡ b
one_test true b h k = sym (h refl)
one_test false true h k = k refl
one_test false false h k = refl

pub each_two-append : (test : Span → Span → Bool) (xs ys : List Span) → each_two test xs ≡ true → each_two test ys ≡ true → ((x y : Span) → In x xs → In y ys → test x y ≡ true) → each_two test (xs ++ ys) ≡ true
each_two-append test [] ys h k c = k
each_two-append test (x ∷ xs) ys h k c =
    let a = and_parts (list_all (test x) xs) (each_two test xs) h in
    and_from (list_all (test x) (xs ++ ys)) (each_two test (xs ++ ys)) (all_of (test x) (xs ++ ys) (λ y m. by y a.0 (In-append_cases y xs ys m)))
    (each_two-append test xs ys a.1 k (λ z y m n. c z y (inr m) n))
  where
    by : (y : Span) → list_all (test x) xs ≡ true → In y xs ⊎ In y ys → test x y ≡ true
    by y a (inl m) = all_at (test x) y xs a m
    by y a (inr m) = c x y (inl refl) m

-- ---- what is among the rows after a change

pub In-changed : (r : Span) (gone come rows : List Span) → In r (changed span_before gone come rows) → In r come ⊎ (In r rows × (In r gone → ⊥))
In-changed r gone come rows m = by (In-insert_all span_before r come (without_rows gone rows) m)
  where
    by : In r come ⊎ In r (without_rows gone rows) → In r come ⊎ (In r rows × (In r gone → ⊥))
    by (inl k) = inl k
    by (inr k) = inr (in_missing gone rows r k)

pub come-In : (r : Span) (gone come rows : List Span) → In r come → In r (changed span_before gone come rows)
come-In r gone come rows m = insert_all-In span_before r come (without_rows gone rows) (inl m)

pub stay-In : (r : Span) (gone come rows : List Span) → In r rows → (In r gone → ⊥) → In r (changed span_before gone come rows)
stay-In r gone come rows m n = insert_all-In span_before r come (without_rows gone rows) (inr (missing_in gone rows r m n))

-- it is the change that was asked for
pub is_change : (gone come rows : List Span) → ((r : Span) → In r gone → In r rows) → ((r : Span) → In r come → In r rows → ⊥) → IsChange rows gone come (changed span_before gone come rows)
is_change gone come rows were fresh = record {
  rows = λ r. (λ m. to r (In-changed r gone come rows m), λ m. from r m);
  were = were;
  fresh = fresh;
}
  where
    to : (r : Span) → In r come ⊎ (In r rows × (In r gone → ⊥)) → (In r rows × (In r gone → ⊥)) ⊎ In r come
    to r (inl m) = inr m
    to r (inr m) = inl m

    from : (r : Span) → (In r rows × (In r gone → ⊥)) ⊎ In r come → In r (changed span_before gone come rows)
    from r (inl m) = stay-In r gone come rows m.0 m.1
    from r (inr m) = come-In r gone come rows m

-- ---- they are in order, apart and merged

begins_both : (r s : Span) → BeginsFirst r s → BeginsFirst s r → ⊥
begins_both r s (begins_class h) (begins_class k) = less_both r.class s.class h k
begins_both r s (begins_class h) (begins_asset c k) = less_one r.class s.class h (sym c)
begins_both r s (begins_class h) (begins_start c a k) = less_one r.class s.class h (sym c)
begins_both r s (begins_asset c h) (begins_class k) = less_one s.class r.class k (sym c)
begins_both r s (begins_asset c h) (begins_asset d k) = omega (arith, h, k)
begins_both r s (begins_asset c h) (begins_start d a k) = omega (arith, h, a)
begins_both r s (begins_start c a h) (begins_class k) = less_one s.class r.class k (sym c)
begins_both r s (begins_start c a h) (begins_asset d k) = omega (arith, a, k)
begins_both r s (begins_start c a h) (begins_start d b k) = omega (arith, h, k)

-- of two rows one stands in front of the other
abbrev pub Fits : Span → Span → Type 0
Fits r s = IsAhead r s ⊎ IsAhead s r

pub fits_other : (r s : Span) → Fits r s → Fits s r
fits_other r s (inl a) = inr a
fits_other r s (inr a) = inl a

fits_before : (r s : Span) → IsFull s → span_before r s ≡ true → Fits r s → IsAhead r s
fits_before r s f h (inl a) = a
fits_before r s f h (inr a) = absurd (begins_both r s (begins_first r s h) (left_first s r f.some a.left))

fits_behind : (r s : Span) → IsFull r → span_before r s ≡ false → Fits r s → IsAhead s r
fits_behind r s f h (inl a) = absurd (both_ways (span_before r s) h (ahead_before r s f.some a))
fits_behind r s f h (inr a) = a

-- one that comes in front of a row comes in front of those behind it
fits_over : (r s t : Span) → IsFull r → IsFull s → IsFull t → IsAhead r s → IsAhead s t → Fits r t → IsAhead r t
fits_over r s t f g h a b (inl c) = c
fits_over r s t f g h a b (inr c) = absurd (begins_both r t (left_first r t f.some (left_trans r s t g a.left b.left)) (left_first t r h.some c.left))

rows_behind : (x : Span) (xs : List Span) → AreRows (x ∷ xs) → AreRows xs
rows_behind x xs a = record { full = λ r m. a.full r (inr m); pairs = a.pairs.1 }

inserted : (x : Span) (ys : List Span) → IsFull x → AreRows ys → ((y : Span) → In y ys → Fits x y) → AreRows (insert_by span_before x ys)
inserted x [] f a fit = record { full = λ r m. one r m; pairs = (λ s m. absurd m, tt) }
  where
    one : (r : Span) → In r (x ∷ []) → IsFull r
    one r (inl e) = subst IsFull (sym e) f
    one r (inr m) = absurd m
inserted x (y ∷ ys) f a fit = by (span_before x y) refl (inserted x ys f (rows_behind y ys a) (λ z m. fit z (inr m)))
  where
    front : span_before x y ≡ true → (z : Span) → In z (y ∷ ys) → IsAhead x z
    front h z (inl e) = subst (IsAhead x) (sym e) (fits_before x y (a.full y (inl refl)) h (fit y (inl refl)))
    front h z (inr m) = fits_over x y z f (a.full y (inl refl)) (a.full z (inr m)) (fits_before x y (a.full y (inl refl)) h (fit y (inl refl))) (a.pairs.0 z m) (fit z (inr m))

    all_full : (r : Span) → In r (x ∷ y ∷ ys) → IsFull r
    all_full r (inl e) = subst IsFull (sym e) f
    all_full r (inr m) = a.full r m

    head_full : AreRows (insert_by span_before x ys) → (r : Span) → In r (y ∷ insert_by span_before x ys) → IsFull r
    head_full b r (inl e) = subst IsFull (sym e) (a.full y (inl refl))
    head_full b r (inr m) = b.full r m

    behind : span_before x y ≡ false → (z : Span) → (z ≡ x) ⊎ In z ys → IsAhead y z
    behind h z (inl e) = subst (IsAhead y) (sym e) (fits_behind x y f h (fit y (inl refl)))
    behind h z (inr m) = a.pairs.0 z m

    by : (b : Bool) → b ≡ span_before x y → AreRows (insert_by span_before x ys) → AreRows (cond b (x ∷ y ∷ ys) (y ∷ insert_by span_before x ys))
    by true e later = record { full = all_full; pairs = (front (sym e), a.pairs) }
    by false e later = record { full = head_full later; pairs = (λ z m. behind (sym e) z (In-insert span_before x z ys m), later.pairs) }

inserted_all : (xs ys : List Span) → ((x : Span) → In x xs → IsFull x) → Pairs xs → AreRows ys → ((x y : Span) → In x xs → In y ys → Fits x y) → AreRows (insert_all span_before xs ys)
inserted_all [] ys f p a fit = a
inserted_all (x ∷ xs) ys f p a fit =
    inserted_all xs (insert_by span_before x ys) (λ z m. f z (inr m)) p.1 (inserted x ys (f x (inl refl)) a (λ y m. fit x y (inl refl) m))
    (λ z y m n. by z y m (In-insert span_before x y ys n))
  where
    by : (z y : Span) → In z xs → (y ≡ x) ⊎ In y ys → Fits z y
    by z y m (inl e) = subst (Fits z) (sym e) (inr (p.0 z m))
    by z y m (inr n) = fit z y (inr m) n

-- the inserted rows are in order, apart and merged, and so is each of them with each row that stays
pub changed_rows_are : (gone come rows : List Span) → AreRows rows → AreRows come → ((x y : Span) → In x come → In y rows → (In y gone → ⊥) → Fits x y) → AreRows (changed span_before gone come rows)
changed_rows_are gone come rows a c fit =
    inserted_all come (without_rows gone rows) c.full c.pairs (rows_from (without_rows gone rows) (found_rows (λ r. not (has_row gone r)) rows (rows_are rows a)))
    (λ x y m n. let k = in_missing gone rows y n in fit x y m k.0 k.1)

-- two of which one comes first by class or by asset, or of one class and asset
pub fits_elsewhere : (x y : Span) → (x.asset ≡ y.asset → x.class ≡ y.class) → (x.class ≡ y.class → x.asset ≡ y.asset → Fits x y) → Fits x y
fits_elsewhere x y one here = by (name_cases x.class y.class)
  where
    number : x.class ≡ y.class → (x.asset ≡ y.asset) ⊎ ((x.asset < y.asset) ⊎ (y.asset < x.asset)) → Fits x y
    number c (inl e) = here c e
    number c (inr (inl k)) = inl (record { left = by_asset c k; one_class = one; not_joined = λ j. let a = j.of_asset in omega (arith, k, a) })
    number c (inr (inr k)) = inr (record { left = by_asset (sym c) k; one_class = λ e. sym (one (sym e)); not_joined = λ j. let a = j.of_asset in omega (arith, k, a) })

    by : NameCases x.class y.class → Fits x y
    by (before k) = inl (record { left = by_class k; one_class = one; not_joined = λ j. less_one x.class y.class k j.of_class })
    by (same c) = number c (cases_order x.asset y.asset)
    by (behind k) = inr (record { left = by_class k; one_class = λ e. sym (one (sym e)); not_joined = λ j. less_one y.class x.class k j.of_class })
