-- Rows that are sorted and of which each is kept once, and the rows that lanes have.
use Rattle.std.proofs.Common.{◌≡◌, ℕ, zero, suc, ◌+◌, ◌-◌, ◌<◌, ◌≤◌, Bool, true, false, cond, ◌⊎◌, inl, inr, List, [], ◌∷◌, ◌++◌, length, get_or, take, refl, sym, ap, subst, ◌∙◌, arith}
use Rattle.std.specs.Prelude.{◌||◌, ◌&&◌, not, nat_lt, nat_le, nat_eq, min, IfOk, Result, Ok, Err}
use Rattle.std.specs.List.{list_any, filter, flat_map}
use Rattle.std.specs.List.Sorted.{IsSortedBy, IsPermutation}
use Rattle.std.specs.Cmp.{IsStrictWeakOrder}
use Rattle.std.specs.Cmp.Lexicographic.{bytes_decides}
use Rattle.std.proofs.lemmas.Bool.{false≢true, both_ways, and_parts, and_from, true_from_ne_false, false_from_ne_true, cases_Bool, cases_lt, lt-ltb, le-ltb, ltb-true, ltb-false, le-leb, leb-true, lt-leb, eq-eqb, eqb-true}
use Rattle.std.proofs.lemmas.List.{take_all, get_or_default}
use Rattle.std.proofs.lemmas.List.Folds.{list_any-append, list_any_more}
use Rattle.std.proofs.lemmas.List.Sorted.{sorted_far, list_any-IsPermutation, IsStrictWeakOrder-by_number}
use Rattle.lrs_measure.specs.Lists.{In, each_two}
use Rattle.lrs_measure.specs.Texts.{Name, same_name}
use Rattle.lrs_measure.proofs.Members.{any_found, any_of, all_at, two_at, In-take, In-append_left, In-append_right, In-append_cases, In-filter, filter-In, In-flat_map}
use Rattle.lrs_measure.proofs.Filters.{each_two-filter}
use Rattle.lrs_events.specs.declared.side.Side.{Side}
use Rattle.lrs_events.specs.declared.side.Side.TheVariants.{L, R, B}
use Rattle.lrs_events.specs.declared.side.LinkSide.TheVariants.{Left, Right}
use Rattle.lrs_events.specs.declared.span.Span.{Span}
use Rattle.lrs_events.specs.Changes.{same_row, has_row}
use Rattle.lrs_events.specs.Members.{has_side}
use Rattle.lrs_events.specs.Spans.{are_rows, is_row, span_before, are_apart}
use Rattle.lrs_events.specs.Row.Removals.{is_met}
use Rattle.lrs_events.specs.Row.Members.{is_of}
use Rattle.lrs_events.proofs.Row.Rows.{IsFull, full_from, apart_from}
use Rattle.lrs_events.proofs.Row.Unique.{kept}
use Rattle.lrs_events.proofs.Row.Differing.{one_row, has_found, has_in}
use Rattle.lrs_events.proofs.Row.Fitting.{each_two-append}
use Rattle.lrs_events.proofs.Row.Sorted.{one_list}
use Rattle.lrs_events.proofs.Row.Changing.{spans_strict, rows_sorted}
use Rattle.lrs_events.specs.declared.lanes.order.RowOrder.TheVariants.{ByAsset as ByRows}
use Rattle.lrs_events.proofs.LaneLists.Ranks.{row_ranks}
use Rattle.lrs_events.specs.declared.spans.lanes.ClassLanes.{ClassLanes}
use Rattle.lrs_events.specs.declared.spans.overlaps.Sorting.{Sorting}
use Rattle.lrs_events.specs.declared.spans.overlaps.Sorting.TheVariants.{ByRow, ByAsset}
use Rattle.lrs_events.specs.RouteSpans.LanesOfRows.{is_on, IsClass, AreTied, AreKept}
use Rattle.lrs_events.proofs.RouteSpans.Holding.{has_row-filter}
use Rattle.lrs_events.specs.RouteSpans.Overlaps.{met_in, met_of, is_with, is_met_asset, goes_before, AreRanked}

pub sorting_ranks : (by : Sorting) → IsStrictWeakOrder (goes_before by)
sorting_ranks ByRow = row_ranks ByRows
sorting_ranks ByAsset = IsStrictWeakOrder-by_number (λ (r : Span). r.asset)

-- ---- places of members

module _ {X : Type 0} where
  at-In : (xs : List X) (n k : ℕ) (d : X) → k < n → k < length xs → In (get_or xs k d) (take n xs)
  at-In [] n k d h l = absurd (omega (arith, l))
  at-In (x ∷ xs) zero k d h l = absurd (omega (arith, h))
  at-In (x ∷ xs) (suc n) zero d h l = inl refl
  at-In (x ∷ xs) (suc n) (suc k) d h l = inr (at-In xs n k d (omega (arith, h)) (omega (arith, l)))

  In-at : (x : X) (xs : List X) (n : ℕ) → In x (take n xs) → (k : ℕ) × (k < n) × (k < length xs) × ((d : X) → x ≡ get_or xs k d)
  In-at x xs zero m = absurd m
  In-at x [] (suc n) m = absurd m
  In-at x (y ∷ ys) (suc n) (inl e) = (0, omega arith, omega arith, λ d. e)
  In-at x (y ∷ ys) (suc n) (inr m) =
      let f = In-at x ys n m in
      let a = f.1 in
      let b = f.2 in
      (suc f.0, omega (arith, a), omega (arith, b), f.3)

  flat_found : {Y : Type 0} (f : X → List Y) (xs : List X) (y : Y) → In y (flat_map f xs) → (x : X) × In x xs × In y (f x)
  flat_found f [] y m = absurd m
  flat_found f (x ∷ xs) y m = by (In-append_cases y (f x) (flat_map f xs) m) (flat_found f xs y)
    where
      by : In y (f x) ⊎ In y (flat_map f xs) → (In y (flat_map f xs) → (z : X) × In z xs × In y (f z)) → (z : X) × In z (x ∷ xs) × In y (f z)
      by (inl k) later = (x, inl refl, k)
      by (inr k) later = let g = later k in (g.0, inr g.1, g.2)

-- ---- each row once

-- the first rows are gathered, each of them once, in order
pub record AreGathered (before : Span → Span → Bool) (rows : List Span) (i : ℕ) (found : List Span) : Type 0 where
  pub order : each_two before found ≡ true
  pub same : (r : Span) → has_row found r ≡ has_row (take i rows) r

or_false : (b : Bool) → (b || false) ≡ b
or_false true = refl
or_false false = refl

module _ (before : Span → Span → Bool) (o : IsStrictWeakOrder before) (rows : List Span) (up : IsSortedBy before rows) (ranked : AreRanked before rows) where
  inside : (k : ℕ) (d : Span) → k < length rows → has_row rows (get_or rows k d) ≡ true
  inside k d l = has_in rows (get_or rows k d) (In-take (get_or rows k d) (k + 1) rows (at-In rows (k + 1) k d (omega arith) l))

  fresh : (i k : ℕ) (d : Span) → k < i → i ≤ k + 1 → i < length rows → before (get_or rows k d) (get_or rows i d) ≡ true → has_row (take i rows) (get_or rows i d) ≡ false
  fresh i k d a b l h = false_from_ne_true (has_row (take i rows) (get_or rows i d)) (λ t. by (In-at (get_or rows i d) rows i (has_found (take i rows) (get_or rows i d) t)))
    where
      by : ((j : ℕ) × (j < i) × (j < length rows) × ((e : Span) → get_or rows i d ≡ get_or rows j e)) → ⊥
      by f =
          let g = f.1 in
          both_ways (before (get_or rows k d) (get_or rows i d))
          (ap (λ z. before (get_or rows k d) z) (f.3 d) ∙ sorted_far before o rows up f.0 k d (omega (arith, g, b)) (omega (arith, a, l))) h

  stale : (i k : ℕ) (d : Span) → k < i → i < length rows → before (get_or rows k d) (get_or rows i d) ≡ false → has_row (take i rows) (get_or rows i d) ≡ true
  stale i k d a l h =
      let within : k < length rows = omega (arith, a, l) in
      let e : get_or rows k d ≡ get_or rows i d = ranked (get_or rows k d) (get_or rows i d) (inside k d within) (inside i d l) h (sorted_far before o rows up k i d (omega (arith, a)) l) in
      has_in (take i rows) (get_or rows i d) (subst (λ z. In z (take i rows)) e (at-In rows i k d a within))

  pub newer : (i k : ℕ) (d : Span) → k < i → i ≤ k + 1 → i < length rows → before (get_or rows k d) (get_or rows i d) ≡ not (has_row (take i rows) (get_or rows i d))
  newer i k d a b l = by (cases_Bool (before (get_or rows k d) (get_or rows i d)))
    where
      by : (before (get_or rows k d) (get_or rows i d) ≡ true) ⊎ (before (get_or rows k d) (get_or rows i d) ≡ false) → before (get_or rows k d) (get_or rows i d) ≡ not (has_row (take i rows) (get_or rows i d))
      by (inl h) = h ∙ ap not (sym (fresh i k d a b l h))
      by (inr h) = h ∙ ap not (sym (stale i k d a l h))

  -- the row at i and the one in front of it, as they are read
  pub newer_at : (i : ℕ) (p x d : Span) → (i ≡ 0 → ⊥) → i < length rows → p ≡ get_or rows (i - 1) p → x ≡ get_or rows i x → before p x ≡ not (has_row (take i rows) (get_or rows i d))
  newer_at i p x d n l u v = by (cases_lt 0 i)
    where
      by : (0 < i) ⊎ (i ≤ 0) → before p x ≡ not (has_row (take i rows) (get_or rows i d))
      by (inl a) =
          (λ j. before ((u ∙ get_or_default rows (i - 1) p d (omega (arith, l))) j) ((v ∙ get_or_default rows i x d l) j))
          ∙ newer i (i - 1) d (omega (arith, a)) (omega (arith, a)) l
      by (inr b) = absurd (n (omega (arith, b)))

  last_first : (i : ℕ) (d y : Span) → i < length rows → has_row (take i rows) (get_or rows i d) ≡ false → In y (take i rows) → before y (get_or rows i d) ≡ true
  last_first i d y l new m = true_from_ne_false (before y x) (λ h. both_ways (has_row (take i rows) x) new (has_in (take i rows) x (subst (λ z. In z (take i rows)) (one h) m)))
    where
      x : Span
      x = get_or rows i d

      level : before x y ≡ false
      level =
          let f = In-at y rows i m in
          let g = f.1 in
          ap (λ z. before x z) (f.3 d) ∙ sorted_far before o rows up f.0 i d (omega (arith, g)) l

      one : before y x ≡ false → y ≡ x
      one h = ranked y x (has_in rows y (In-take y i rows m)) (inside i d l) h level

  pub gathered_more : (i : ℕ) (d : Span) (found : List Span) → i < length rows → not (has_row (take i rows) (get_or rows i d)) ≡ true → AreGathered before rows i found → AreGathered before rows (i + 1) (found ++ get_or rows i d ∷ [])
  gathered_more i d found l new g = record {
    order = each_two-append before found (get_or rows i d ∷ []) g.order refl (λ y z m n. by y z m n);
    same = λ r.
        list_any-append (λ s. same_row s r) found (get_or rows i d ∷ [])
        ∙ (λ j. g.same r j || or_false (same_row (get_or rows i d) r) j)
        ∙ sym (list_any_more (λ s. same_row s r) rows i d l);
  }
    where
      is_new : (b : Bool) → not b ≡ true → b ≡ false
      is_new true h = absurd (false≢true h)
      is_new false h = refl

      by : (y z : Span) → In y found → In z (get_or rows i d ∷ []) → before y z ≡ true
      by y z m (inl e) = ap (before y) e ∙ last_first i d y l (is_new (has_row (take i rows) (get_or rows i d)) new) (has_found (take i rows) y (sym (g.same y) ∙ has_in found y m))
      by y z m (inr n) = absurd n

  pub gathered_same : (i : ℕ) (found : List Span) → i < length rows → ((d : Span) → not (has_row (take i rows) (get_or rows i d)) ≡ false) → AreGathered before rows i found → AreGathered before rows (i + 1) found
  gathered_same i found l old g = record {
    order = g.order;
    same = λ r. g.same r ∙ sym (list_any_more (λ s. same_row s r) rows i r l ∙ by r r (cases_Bool (same_row (get_or rows i r) r)));
  }
    where
      is_old : (b : Bool) → not b ≡ false → b ≡ true
      is_old true h = refl
      is_old false h = absurd (false≢true (sym h))

      or_true : (b : Bool) → b ≡ true → (b || true) ≡ b
      or_true true h = refl
      or_true false h = sym h

      by : (d r : Span) → (same_row (get_or rows i d) r ≡ true) ⊎ (same_row (get_or rows i d) r ≡ false) → (has_row (take i rows) r || same_row (get_or rows i d) r) ≡ has_row (take i rows) r
      by d r (inl e) = (λ j. has_row (take i rows) r || e j) ∙ or_true (has_row (take i rows) r) (ap (has_row (take i rows)) (sym (one_row (get_or rows i d) r e)) ∙ is_old (has_row (take i rows) (get_or rows i d)) (old d))
      by d r (inr e) = (λ j. has_row (take i rows) r || e j) ∙ or_false (has_row (take i rows) r)

pub gathered_none : (before : Span → Span → Bool) (rows : List Span) → AreGathered before rows 0 []
gathered_none before rows = record { order = refl; same = λ r. refl }

pub gathered_all : (before : Span → Span → Bool) (rows found : List Span) (i : ℕ) → length rows ≤ i → AreGathered before rows i found → (r : Span) → has_row found r ≡ has_row rows r
gathered_all before rows found i h g r = g.same r ∙ ap (λ z. has_row z r) (take_all i rows h)

pub has_sorted : (xs ys zs : List Span) → IsPermutation xs zs → ys ≡ zs → (r : Span) → has_row ys r ≡ has_row xs r
has_sorted xs ys zs p e r = ap (λ z. has_row z r) e ∙ sym (list_any-IsPermutation (λ s. same_row s r) xs zs p)

pub ranked_sorted : (before : Span → Span → Bool) (xs ys zs : List Span) → IsPermutation xs zs → ys ≡ zs → AreRanked before xs → AreRanked before ys
ranked_sorted before xs ys zs p e ranked r s m n = ranked r s (sym (has_sorted xs ys zs p e r) ∙ m) (sym (has_sorted xs ys zs p e s) ∙ n)

-- ---- the rows of lanes

one_side : (s : Side) → (has_side s Left ≡ true) ⊎ (has_side s Right ≡ true)
one_side L = inl refl
one_side R = inr refl
one_side B = inl refl

-- the rows that are met in the lanes of some classes
abbrev pub met_some : (Name → Bool) → ℕ → ℕ → ClassLanes → List Span
met_some of low high l = cond (of l.class) (met_in low high l) []

module _ (rows : List Span) (lanes : List ClassLanes) (t : AreTied rows lanes) (of : Name → Bool) (low high : ℕ) where
  class_at : (l : ClassLanes) → In l lanes → IsClass rows l
  class_at l m =
      let f = In-at l lanes (length lanes) (subst (In l) (sym (take_all (length lanes) lanes (omega arith))) m) in
      subst (IsClass rows) (sym (f.3 l)) (t.each f.0 l f.2)

  pub record IsMet (x : Span) : Type 0 where
    pub row : In x rows
    pub met : is_met low high x ≡ true
    pub of_class : of x.class ≡ true

  pub lanes_met : (x : Span) → In x (flat_map (met_some of low high) lanes) → IsMet x
  lanes_met x m = let f = flat_found (met_some of low high) lanes x m in by f.0 (class_at f.0 f.1) (of f.0.class) refl f.2
    where
      named : (l : ClassLanes) → same_name x.class l.class ≡ true → true ≡ of l.class → of x.class ≡ true
      named l e h = ap of ((bytes_decides x.class l.class).0 e) ∙ sym h

      two : (l : ClassLanes) → IsClass rows l → true ≡ of l.class → In x (filter (is_met low high) l.left.rows) ⊎ In x (filter (is_met low high) l.right.rows) → IsMet x
      two l c h (inl n) =
          let f = In-filter (is_met low high) x l.left.rows n in
          let a = and_parts (has_row rows x) (is_on l.class Left x) (sym (c.left x) ∙ has_in l.left.rows x f.0) in
          let b = and_parts (same_name x.class l.class) (has_side x.side Left) a.1 in
          record { row = has_found rows x a.0; met = f.1; of_class = named l b.0 h }
      two l c h (inr n) =
          let f = In-filter (is_met low high) x l.right.rows n in
          let a = and_parts (has_row rows x) (is_on l.class Right x) (sym (c.right x) ∙ has_in l.right.rows x f.0) in
          let b = and_parts (same_name x.class l.class) (has_side x.side Right) a.1 in
          record { row = has_found rows x a.0; met = f.1; of_class = named l b.0 h }

      by : (l : ClassLanes) → IsClass rows l → (b : Bool) → b ≡ of l.class → In x (cond b (met_in low high l) []) → IsMet x
      by l c true h n = two l c h (In-append_cases x (filter (is_met low high) l.left.rows) (filter (is_met low high) l.right.rows) n)
      by l c false h n = absurd n

  pub met_lanes : (x : Span) → IsMet x → In x (flat_map (met_some of low high) lanes)
  met_lanes x h =
      let f = any_found (λ (l : ClassLanes). same_name l.class x.class) lanes (t.all x (has_in rows x h.row)) in
      let e = (bytes_decides f.0.class x.class).0 f.2 in
      In-flat_map (met_some of low high) f.0 x lanes f.1
      (subst (λ b. In x (cond b (met_in low high f.0) [])) (sym (ap of e ∙ h.of_class)) (by f.0 (class_at f.0 f.1) ((bytes_decides x.class f.0.class).1 (sym e)) (one_side x.side)))
    where
      by : (l : ClassLanes) → IsClass rows l → same_name x.class l.class ≡ true → (has_side x.side Left ≡ true) ⊎ (has_side x.side Right ≡ true) → In x (met_in low high l)
      by l c e (inl s) =
          In-append_left x (filter (is_met low high) l.left.rows) (filter (is_met low high) l.right.rows) (filter-In (is_met low high) x l.left.rows
          (has_found l.left.rows x (c.left x ∙ and_from (has_row rows x) (is_on l.class Left x) (has_in rows x h.row) (and_from (same_name x.class l.class) (has_side x.side Left) e s))) h.met)
      by l c e (inr s) =
          In-append_right x (filter (is_met low high) l.left.rows) (filter (is_met low high) l.right.rows) (filter-In (is_met low high) x l.right.rows
          (has_found l.right.rows x (c.right x ∙ and_from (has_row rows x) (is_on l.class Right x) (has_in rows x h.row) (and_from (same_name x.class l.class) (has_side x.side Right) e s))) h.met)

-- of canonical rows, those that are not one come one before the other
pub rows_ranked : (rows some : List Span) → are_rows rows ≡ true → ((r : Span) → In r some → In r rows) → AreRanked span_before some
rows_ranked rows some h f r s m n a b = by (two_at span_before r s rows (rows_sorted rows h) (f r (has_found some r m)) (f s (has_found some s n)))
  where
    by : (r ≡ s) ⊎ ((span_before r s ≡ true) ⊎ (span_before s r ≡ true)) → r ≡ s
    by (inl e) = e
    by (inr (inl k)) = absurd (both_ways (span_before r s) a k)
    by (inr (inr k)) = absurd (both_ways (span_before s r) b k)

-- rows in order that are those of canonical rows that pass a test
pub found_are : (test : Span → Bool) (rows found : List Span) → are_rows rows ≡ true → each_two span_before found ≡ true → ((x : Span) → In x found → In x rows × (test x ≡ true)) → ((x : Span) → In x rows → test x ≡ true → In x found) → found ≡ filter test rows
found_are test rows found h s f g =
    one_list span_before spans_strict found (filter test rows) s (each_two-filter span_before test rows (rows_sorted rows h))
    (λ x m. let p = f x m in filter-In test x rows p.0 p.1) (λ x m. let p = In-filter test x rows m in g x p.0 p.1)

module _ (rows : List Span) (lanes : List ClassLanes) (k : AreKept rows lanes) (low high : ℕ) (collected : List Span) (e : collected ≡ flat_map (met_in low high) lanes) where
  abbrev every : Name → Bool
  every c = true

  collected_met : (x : Span) → In x collected → In x rows × (is_met low high x ≡ true)
  collected_met x m = let i = lanes_met rows lanes k.tied every low high x (subst (In x) e m) in (i.row, i.met)

  met_collected : (x : Span) → In x rows → is_met low high x ≡ true → In x collected
  met_collected x m h = subst (In x) (sym e) (met_lanes rows lanes k.tied every low high x (record { row = m; met = h; of_class = refl }))

  pub met_ranked : AreRanked span_before collected
  met_ranked = rows_ranked rows collected k.canonical (λ r m. (collected_met r m).0)

  pub met_rows : (found : List Span) → each_two span_before found ≡ true → ((r : Span) → has_row found r ≡ has_row collected r) → found ≡ filter (is_met low high) rows
  met_rows found s h =
      found_are (is_met low high) rows found k.canonical s (λ x m. collected_met x (has_found collected x (sym (h x) ∙ has_in found x m)))
      (λ x m p. has_found found x (h x ∙ has_in collected x (met_collected x m p)))

-- a test of a row tells the same as another where it does of each that is there
pub test_has : (p q : Span → Bool) (rows found : List Span) → ((x : Span) → In x found → In x rows × (p x ≡ true)) → ((x : Span) → In x rows → p x ≡ true → In x found) → ((x : Span) → In x rows → p x ≡ q x)
    → (r : Span) → has_row found r ≡ (has_row rows r && q r)
test_has p q rows found f g e r = by (cases_Bool (has_row found r)) (cases_Bool (has_row rows r)) (cases_Bool (q r))
  where
    by : (has_row found r ≡ true) ⊎ (has_row found r ≡ false) → (has_row rows r ≡ true) ⊎ (has_row rows r ≡ false) → (q r ≡ true) ⊎ (q r ≡ false) → has_row found r ≡ (has_row rows r && q r)
    by (inl a) b c =
        let m = f r (has_found found r a) in
        a ∙ sym (and_from (has_row rows r) (q r) (has_in rows r m.0) (sym (e r m.0) ∙ m.1))
    by (inr a) (inr b) c = a ∙ sym (λ j. b j && q r)
    by (inr a) (inl b) (inr c) = a ∙ sym (λ j. b j && c j)
    by (inr a) (inl b) (inl c) =
        let m = has_found rows r b in
        absurd (both_ways (has_row found r) a (has_in found r (g r m (e r m ∙ c))))

-- the rows over a millimetre
module _ (rows : List Span) (h : are_rows rows ≡ true) (j high : ℕ) (e : high ≡ min (j + 1) 18_446_744_073_709_551_615) where
  over_full : (r : Span) → In r rows → IsFull r
  over_full r m = full_from r (all_at is_row r rows (kept rows h).each m)

  pub over_is : (x : Span) → In x rows → is_met j high x ≡ (nat_le x.from j && nat_lt j x.to)
  over_is x m = by (cases_Bool (nat_lt j x.to)) (cases_lt j x.from)
    where
      none : (a : Bool) → (a && false) ≡ false
      none true = refl
      none false = refl

      is_high : nat_lt j x.to ≡ true → high ≡ j + 1
      is_high l = let a = ltb-true j x.to l in let b = (over_full x m).short in omega (arith, a, b, e)

      by : (nat_lt j x.to ≡ true) ⊎ (nat_lt j x.to ≡ false) → (j < x.from) ⊎ (x.from ≤ j) → is_met j high x ≡ (nat_le x.from j && nat_lt j x.to)
      by (inr f) c = (λ w. nat_lt x.from high && f w) ∙ none (nat_lt x.from high) ∙ sym ((λ w. nat_le x.from j && f w) ∙ none (nat_le x.from j))
      by (inl t) (inr l) =
          let q = is_high t in
          (λ w. lt-ltb x.from high (omega (arith, l, q)) w && nat_lt j x.to) ∙ sym (λ w. le-leb x.from j l w && nat_lt j x.to)
      by (inl t) (inl g) =
          let q = is_high t in
          (λ w. le-ltb x.from high (omega (arith, g, q)) w && nat_lt j x.to) ∙ sym (λ w. lt-leb x.from j g w && nat_lt j x.to)

  one_over : (x y : Span) → In x rows → In y rows → is_met j high x ≡ true → is_met j high y ≡ true → x.asset ≡ y.asset → x ≡ y
  one_over x y m n a b same = by (two_at are_apart x y rows (kept rows h).apart m n)
    where
      p : (nat_le x.from j ≡ true) × (nat_lt j x.to ≡ true)
      p = and_parts (nat_le x.from j) (nat_lt j x.to) (sym (over_is x m) ∙ a)

      q : (nat_le y.from j ≡ true) × (nat_lt j y.to ≡ true)
      q = and_parts (nat_le y.from j) (nat_lt j y.to) (sym (over_is y n) ∙ b)

      off : (x.to ≤ y.from) ⊎ (y.to ≤ x.from) → ⊥
      off (inl l) = let u = ltb-true j x.to p.1 in let v = leb-true y.from j q.0 in omega (arith, l, u, v)
      off (inr l) = let u = ltb-true j y.to q.1 in let v = leb-true x.from j p.0 in omega (arith, l, u, v)

      turned : (y.to ≤ x.from) ⊎ (x.to ≤ y.from) → ⊥
      turned (inl l) = off (inr l)
      turned (inr l) = off (inl l)

      by : (x ≡ y) ⊎ ((are_apart x y ≡ true) ⊎ (are_apart y x ≡ true)) → x ≡ y
      by (inl k) = k
      by (inr (inl k)) = absurd (off ((apart_from x y (over_full x m).some (over_full y n).some k).off same))
      by (inr (inr k)) = absurd (turned ((apart_from y x (over_full y n).some (over_full x m).some k).off (sym same)))

  pub over_ranked : (some : List Span) → ((x : Span) → In x some → In x rows × (is_met j high x ≡ true)) → AreRanked (goes_before ByAsset) some
  over_ranked some f r s m n a b =
      let p = f r (has_found some r m) in
      let q = f s (has_found some s n) in
      let u = ltb-false r.asset s.asset a in
      let v = ltb-false s.asset r.asset b in
      one_over r s p.0 q.0 p.1 q.1 (omega (arith, u, v))

module _ (rows : List Span) (lanes : List ClassLanes) (k : AreKept rows lanes) (j high : ℕ) (e : high ≡ min (j + 1) 18_446_744_073_709_551_615) (collected : List Span) (c : collected ≡ flat_map (met_in j high) lanes) where
  pub at_ranked : AreRanked (goes_before ByAsset) collected
  at_ranked = over_ranked rows k.canonical j high e collected (collected_met rows lanes k j high collected c)

  pub at_rows : (found : List Span) → ((r : Span) → has_row found r ≡ has_row collected r) → (r : Span) → has_row found r ≡ (has_row rows r && (nat_le r.from j && nat_lt j r.to))
  at_rows found h r =
      h r ∙ test_has (is_met j high) (λ x. nat_le x.from j && nat_lt j x.to) rows collected (collected_met rows lanes k j high collected c) (met_collected rows lanes k j high collected c) (over_is rows k.canonical j high e) r

-- ---- all rows of the assets that are met

module _ (met : List Span) (i : ℕ) (within : i < length met) where
  -- a row of the asset of the one in front of it adds nothing
  pub with_repeated : (d e : Span) → (i ≡ 0 → ⊥) → (get_or met (i - 1) d).asset ≡ (get_or met i e).asset → (class : Name) (r : Span) → is_with class (take (i + 1) met) r ≡ is_with class (take i met) r
  with_repeated d e n same class r = list_any_more (λ z. is_of class z.asset r) met i e within ∙ by (cases_Bool (is_of class (get_or met i e).asset r)) (cases_lt 0 i)
    where
      true_too : (b : Bool) → b ≡ true → (b || true) ≡ b
      true_too true h = refl
      true_too false h = sym h

      by : (is_of class (get_or met i e).asset r ≡ true) ⊎ (is_of class (get_or met i e).asset r ≡ false) → (0 < i) ⊎ (i ≤ 0) → (is_with class (take i met) r || is_of class (get_or met i e).asset r) ≡ is_with class (take i met) r
      by (inr f) b = (λ j. is_with class (take i met) r || f j) ∙ or_false (is_with class (take i met) r)
      by (inl t) (inr b) = absurd (n (omega (arith, b)))
      by (inl t) (inl a) =
          (λ j. is_with class (take i met) r || t j)
          ∙ true_too (is_with class (take i met) r) (any_of (λ z. is_of class z.asset r) (get_or met (i - 1) d) (take i met) (at-In met i (i - 1) d (omega (arith, a)) (omega (arith, within))) (ap (λ z. is_of class z r) same ∙ t))

  pub with_more : (rows : List Span) (class : Name) (d : Span) (found : List Span) → ((r : Span) → has_row found r ≡ (has_row rows r && is_with class (take i met) r))
      → (r : Span) → has_row (found ++ filter (is_of class (get_or met i d).asset) rows) r ≡ (has_row rows r && is_with class (take (i + 1) met) r)
  with_more rows class d found g r =
      list_any-append (λ s. same_row s r) found (filter (is_of class (get_or met i d).asset) rows)
      ∙ (λ j. g r j || has_row-filter (is_of class (get_or met i d).asset) rows r j)
      ∙ law (has_row rows r) (is_with class (take i met) r) (is_of class (get_or met i d).asset r)
      ∙ sym (λ j. has_row rows r && list_any_more (λ z. is_of class z.asset r) met i d within j)
    where
      law : (a b c : Bool) → ((a && b) || (a && c)) ≡ (a && (b || c))
      law true b c = refl
      law false b c = refl

module _ (rows : List Span) (lanes : List ClassLanes) (k : AreKept rows lanes) (class : Name) (low high : ℕ) (met : List Span) (e : met ≡ flat_map (met_of class low high) lanes) where
  abbrev named : Name → Bool
  named c = same_name c class

  met_is : (x : Span) → In x met → IsMet rows lanes k.tied named low high x
  met_is x m = lanes_met rows lanes k.tied named low high x (subst (In x) e m)

  is_in_met : (x : Span) → IsMet rows lanes k.tied named low high x → In x met
  is_in_met x i = subst (In x) (sym e) (met_lanes rows lanes k.tied named low high x i)

  module _ (sorted all : List Span) (same : (r : Span) → has_row sorted r ≡ has_row met r) (c : (r : Span) → has_row all r ≡ (has_row rows r && is_with class sorted r)) where
    all_in : (x : Span) → In x all → In x rows × (is_met_asset rows class low high x.class x.asset ≡ true)
    all_in x m =
        let p = and_parts (has_row rows x) (is_with class sorted x) (sym (c x) ∙ has_in all x m) in
        let f = any_found (λ q. is_of class q.asset x) sorted p.1 in
        let h = and_parts (same_name x.class class) (nat_eq x.asset f.0.asset) f.2 in
        let i = met_is f.0 (has_found met f.0 (sym (same f.0) ∙ has_in sorted f.0 f.1)) in (
          has_found rows x p.0,
          and_from (same_name x.class class) (list_any (λ q. is_of class x.asset q && is_met low high q) rows) h.0
              (any_of (λ q. is_of class x.asset q && is_met low high q) f.0 rows i.row
              (and_from (is_of class x.asset f.0) (is_met low high f.0) (and_from (same_name f.0.class class) (nat_eq f.0.asset x.asset) i.of_class (eq-eqb f.0.asset x.asset (sym (eqb-true x.asset f.0.asset h.1)))) i.met)),
        )

    in_all : (x : Span) → In x rows → is_met_asset rows class low high x.class x.asset ≡ true → In x all
    in_all x m h =
        let a = and_parts (same_name x.class class) (list_any (λ q. is_of class x.asset q && is_met low high q) rows) h in
        let f = any_found (λ q. is_of class x.asset q && is_met low high q) rows a.1 in
        let b = and_parts (is_of class x.asset f.0) (is_met low high f.0) f.2 in
        let g = and_parts (same_name f.0.class class) (nat_eq f.0.asset x.asset) b.0 in
        let there = has_found sorted f.0 (same f.0 ∙ has_in met f.0 (is_in_met f.0 (record { row = f.1; met = b.1; of_class = g.0 }))) in
        has_found all x (c x ∙ and_from (has_row rows x) (is_with class sorted x) (has_in rows x m)
        (any_of (λ q. is_of class q.asset x) f.0 sorted there (and_from (same_name x.class class) (nat_eq x.asset f.0.asset) a.0 (eq-eqb x.asset f.0.asset (sym (eqb-true f.0.asset x.asset g.1))))))

    pub assets_ranked : AreRanked span_before all
    assets_ranked = rows_ranked rows all k.canonical (λ r m. (all_in r m).0)

    pub assets_rows : (found : List Span) → each_two span_before found ≡ true → ((r : Span) → has_row found r ≡ has_row all r) → found ≡ filter (λ r. is_met_asset rows class low high r.class r.asset) rows
    assets_rows found s h =
        found_are (λ r. is_met_asset rows class low high r.class r.asset) rows found k.canonical s (λ x m. all_in x (has_found all x (sym (h x) ∙ has_in found x m)))
        (λ x m p. has_found found x (h x ∙ has_in all x (in_all x m p)))

-- ---- what a call that may fail gives

pub if_both : {T E : Type 0} (r : Result T E) (P Q W : T → Type 0) → ((x : T) → P x → Q x → W x) → IfOk r P → IfOk r Q → IfOk r W
if_both (Ok x) P Q W f p q = f x p q
if_both (Err e) P Q W f p q = tt
