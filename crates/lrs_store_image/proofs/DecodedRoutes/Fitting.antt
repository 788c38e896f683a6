-- Rows of one route: sorted and told by neighbours, they are canonical as the definitions test each two.
use Rattle.std.proofs.Common.{◌≡◌, ℕ, suc, ◌+◌, ◌<◌, ◌≤◌, Bool, true, false, cond, not, ◌⊎◌, inl, inr, List, [], ◌∷◌, length, get_or, Option, Some, None, refl, sym, ap, ◌∙◌, arith, add-one, IsPermutation}
use Rattle.std.specs.Prelude.{◌&&◌, ◌||◌, nat_eq, nat_lt, nat_le}
use Rattle.std.specs.List.{list_all, IsAllAdjacentAnswer}
use Rattle.std.specs.List.Sorted.{IsSortedBy}
use Rattle.std.specs.Cmp.{IsStrictWeakOrder}
use Rattle.std.specs.Cmp.Lexicographic.{bytes_decides}
use Rattle.std.proofs.lemmas.Bool.{false≢true, both_ways, and_parts, and_from, or_cases, or_left, or_right, cases_Bool, eqb-true, eq-eqb, lt-ltb, ltb-true, false_from_ne_true}
use Rattle.std.proofs.lemmas.List.Sorted.{IsPermutation-sym}
use Rattle.lrs_measure.specs.Lists.{each_two}
use Rattle.lrs_measure.specs.Texts.{same_name, name_before}
use Rattle.lrs_measure.specs.Limits.{longest_route}
use Rattle.lrs_measure.proofs.Members.{all_at, all_of}
use Rattle.lrs_measure.proofs.Places.{two_pass}
use Rattle.lrs_events.specs.declared.span.Span.{Span}
use Rattle.lrs_events.specs.Spans.{are_rows, are_apart, is_row, same_side, span_before}
use Rattle.lrs_events.specs.declared.lanes.order.RowOrder.TheVariants.{ByAsset}
use Rattle.lrs_events.proofs.LaneLists.Ranks.{before_trans, of_one_class, row_ranks}
use Rattle.lrs_image_sound.proofs.Rising.{rises}
use Rattle.lrs_store_tables.specs.Contents.Decoders.{sorted, only_if}
use Rattle.lrs_store_tables.proofs.Contents.Unordered.{sort_alike, sorted_is}
use Rattle.lrs_store_image.proofs.DecodedRoutes.Grouped.{sorted_strict, names_rank}
use Rattle.lrs_store_image.specs.DecodedRoutes.Spans.{agree, follows, canonical}

pub rows_rank : IsStrictWeakOrder span_before
rows_rank = row_ranks ByAsset

trans : (x y z : Span) → span_before x y ≡ true → span_before y z ≡ true → span_before x z ≡ true
trans = before_trans span_before rows_rank

-- ---- two rows of one asset

one_class : (r s : Span) → agree r s ≡ true → r.asset ≡ s.asset → r.class ≡ s.class
one_class r s h e = (bytes_decides r.class s.class).0 (by (nat_eq r.asset s.asset) (eq-eqb r.asset s.asset e) h)
  where
    by : (b : Bool) → b ≡ true → (not b || same_name r.class s.class) ≡ true → same_name r.class s.class ≡ true
    by true e k = k
    by false e k = absurd (false≢true e)

-- what lies in order in one class
in_class : (r s : Span) → r.class ≡ s.class → span_before r s ≡ true → (r.asset < s.asset) ⊎ ((r.asset ≡ s.asset) × (r.from < s.from))
in_class r s e h = by (or_cases (nat_lt r.asset s.asset) (nat_eq r.asset s.asset && nat_lt r.from s.from) (sym (of_one_class r s ((bytes_decides r.class s.class).1 e)) ∙ h))
  where
    by : (nat_lt r.asset s.asset ≡ true) ⊎ ((nat_eq r.asset s.asset && nat_lt r.from s.from) ≡ true) → (r.asset < s.asset) ⊎ ((r.asset ≡ s.asset) × (r.from < s.from))
    by (inl l) = inl (ltb-true r.asset s.asset l)
    by (inr t) = let p = and_parts (nat_eq r.asset s.asset) (nat_lt r.from s.from) t in inr (eqb-true r.asset s.asset p.0, ltb-true r.from s.from p.1)

-- a row between two of one asset is of that asset
between : (x y z : Span) → span_before x y ≡ true → span_before y z ≡ true → x.class ≡ z.class → x.asset ≡ z.asset → (x.class ≡ y.class) × (x.asset ≡ y.asset)
between x y z h k c a = first (or_cases (name_before x.class y.class) (same_name x.class y.class && (nat_lt x.asset y.asset || (nat_eq x.asset y.asset && nat_lt x.from y.from))) h)
  where
    behind : name_before x.class y.class ≡ true → ⊥
    behind t = last (or_cases (name_before y.class z.class) (same_name y.class z.class && (nat_lt y.asset z.asset || (nat_eq y.asset z.asset && nat_lt y.from z.from))) k)
      where
        no_way : name_before y.class x.class ≡ true → ⊥
        no_way u = both_ways (name_before y.class x.class) (names_rank.one_way x.class y.class t) u

        not_itself : y.class ≡ x.class → ⊥
        not_itself e = both_ways (name_before x.class x.class) (names_rank.one_way x.class x.class (ap (name_before x.class) (sym e) ∙ t)) (ap (name_before x.class) (sym e) ∙ t)

        last : (name_before y.class z.class ≡ true) ⊎ ((same_name y.class z.class && (nat_lt y.asset z.asset || (nat_eq y.asset z.asset && nat_lt y.from z.from))) ≡ true) → ⊥
        last (inl u) = no_way (ap (name_before y.class) c ∙ u)
        last (inr u) = not_itself ((bytes_decides y.class z.class).0 (and_parts (same_name y.class z.class) (nat_lt y.asset z.asset || (nat_eq y.asset z.asset && nat_lt y.from z.from)) u).0 ∙ sym c)

    first : (name_before x.class y.class ≡ true) ⊎ ((same_name x.class y.class && (nat_lt x.asset y.asset || (nat_eq x.asset y.asset && nat_lt x.from y.from))) ≡ true) → (x.class ≡ y.class) × (x.asset ≡ y.asset)
    first (inl t) = absurd (behind t)
    first (inr t) =
        let same : x.class ≡ y.class = (bytes_decides x.class y.class).0 (and_parts (same_name x.class y.class) (nat_lt x.asset y.asset || (nat_eq x.asset y.asset && nat_lt x.from y.from)) t).0 in
        (same, level (in_class x y same h) (in_class y z (sym same ∙ c) k))
      where
        level : (x.asset < y.asset) ⊎ ((x.asset ≡ y.asset) × (x.from < y.from)) → (y.asset < z.asset) ⊎ ((y.asset ≡ z.asset) × (y.from < z.from)) → x.asset ≡ y.asset
        level (inr p) q = p.0
        level (inl l) (inl m) = absurd (omega (arith, l, m, a))
        level (inl l) (inr q) = let e = q.0 in absurd (omega (arith, l, e, a))

row_parts : (r : Span) → is_row r ≡ true → r.from < r.to
row_parts r h = ltb-true r.from r.to (and_parts (nat_lt r.from r.to) (nat_le r.to longest_route) h).0

-- of two rows of one asset the first ends before the second
ends_before : (x y : Span) → is_row x ≡ true → is_row y ≡ true → x.class ≡ y.class → x.asset ≡ y.asset → span_before x y ≡ true → are_apart x y ≡ true → x.to ≤ y.from
ends_before x y f g c a h k = start (in_class x y c h)
  where
    x_filled : x.from < x.to
    x_filled = row_parts x f

    y_filled : y.from < y.to
    y_filled = row_parts y g

    places : (b d : Bool) → b ≡ true → (not b || (d && (nat_lt x.to y.from || nat_lt y.to x.from || ((nat_eq x.to y.from || nat_eq y.to x.from) && not (same_side x.side y.side))))) ≡ true
        → (nat_lt x.to y.from || nat_lt y.to x.from || ((nat_eq x.to y.from || nat_eq y.to x.from) && not (same_side x.side y.side))) ≡ true
    places true true e k = k
    places true false e k = absurd (false≢true k)
    places false d e k = absurd (false≢true e)

    meet : Bool
    meet = (nat_eq x.to y.from || nat_eq y.to x.from) && not (same_side x.side y.side)

    start : (x.asset < y.asset) ⊎ ((x.asset ≡ y.asset) × (x.from < y.from)) → x.to ≤ y.from
    start (inl l) = absurd (omega (arith, l, a))
    start (inr p) = by (or_cases (nat_lt x.to y.from || nat_lt y.to x.from) meet (places (nat_eq x.asset y.asset) (same_name x.class y.class) (eq-eqb x.asset y.asset a) k))
      where
        less : x.from < y.from
        less = p.1

        touch : (nat_eq x.to y.from ≡ true) ⊎ (nat_eq y.to x.from ≡ true) → x.to ≤ y.from
        touch (inl e) = let s = eqb-true x.to y.from e in omega (arith, s)
        touch (inr e) = let s = eqb-true y.to x.from e in let l = less in let m = y_filled in absurd (omega (arith, s, l, m))

        one_way : (nat_lt x.to y.from ≡ true) ⊎ (nat_lt y.to x.from ≡ true) → x.to ≤ y.from
        one_way (inl t) = let s = ltb-true x.to y.from t in omega (arith, s)
        one_way (inr t) = let s = ltb-true y.to x.from t in let l = less in let m = y_filled in absurd (omega (arith, s, l, m))

        by : ((nat_lt x.to y.from || nat_lt y.to x.from) ≡ true) ⊎ (meet ≡ true) → x.to ≤ y.from
        by (inl t) = one_way (or_cases (nat_lt x.to y.from) (nat_lt y.to x.from) t)
        by (inr t) = touch (or_cases (nat_eq x.to y.from) (nat_eq y.to x.from) (and_parts (nat_eq x.to y.from || nat_eq y.to x.from) (not (same_side x.side y.side)) t).0)

-- apart, by way of a row between
beyond : (x y z : Span) → is_row x ≡ true → is_row y ≡ true → is_row z ≡ true → agree x z ≡ true → span_before x y ≡ true → span_before y z ≡ true → are_apart x y ≡ true → are_apart y z ≡ true → are_apart x z ≡ true
beyond x y z f g i one h k a b = by (cases_Bool (nat_eq x.asset z.asset))
  where
    meet : Bool
    meet = (nat_eq x.to z.from || nat_eq z.to x.from) && not (same_side x.side z.side)

    places : Bool
    places = nat_lt x.to z.from || nat_lt z.to x.from || meet

    by : (nat_eq x.asset z.asset ≡ true) ⊎ (nat_eq x.asset z.asset ≡ false) → are_apart x z ≡ true
    by (inr e) = or_left (not (nat_eq x.asset z.asset)) (same_name x.class z.class && places) (ap not e)
    by (inl e) =
        let asset = eqb-true x.asset z.asset e in
        let class = one_class x z one asset in
        let mid = between x y z h k class asset in
        let first = ends_before x y f g mid.0 mid.1 h a in
        let last = ends_before y z g i (sym mid.0 ∙ class) (sym mid.1 ∙ asset) k b in
        let some = row_parts y g in
        or_right (not (nat_eq x.asset z.asset)) (same_name x.class z.class && places)
        (and_from (same_name x.class z.class) places ((bytes_decides x.class z.class).1 class)
        (or_left (nat_lt x.to z.from || nat_lt z.to x.from) meet (or_left (nat_lt x.to z.from) (nat_lt z.to x.from) (lt-ltb x.to z.from (omega (arith, first, last, some))))))

-- ---- neighbours

abbrev Neighbours : List Span → Type 0
Neighbours xs = (k : ℕ) (d : Span) → k + 1 < length xs → follows (get_or xs k d) (get_or xs (k + 1) d) ≡ true

apart : (xs : List Span) → list_all is_row xs ≡ true → each_two agree xs ≡ true → each_two span_before xs ≡ true → Neighbours xs → each_two are_apart xs ≡ true
apart [] f g h n = refl
apart (x ∷ []) f g h n = refl
apart (x ∷ y ∷ ys) f g h n =
    let rows = and_parts (is_row x) (list_all is_row (y ∷ ys)) f in
    let ones = and_parts (list_all (agree x) (y ∷ ys)) (each_two agree (y ∷ ys)) g in
    let order = and_parts (list_all (span_before x) (y ∷ ys)) (each_two span_before (y ∷ ys)) h in
    let more = apart (y ∷ ys) rows.1 ones.1 order.1 (λ k d lt. rw add-one (rw add-one at (n (suc k) d (omega (arith, lt))))) in
    let first : follows x y ≡ true = n 0 x (omega arith) in
    let two = and_parts (span_before x y) (are_apart x y) first in
    let others = (and_parts (list_all (are_apart y) ys) (each_two are_apart ys) more).0 in
    let later = (and_parts (list_all (span_before y) ys) (each_two span_before ys) order.1).0 in
    let own = (and_parts (is_row y) (list_all is_row ys) rows.1).0 in
    let rest = (and_parts (is_row y) (list_all is_row ys) rows.1).1 in
    let told = (and_parts (agree x y) (list_all (agree x) ys) ones.0).1 in
    and_from (list_all (are_apart x) (y ∷ ys)) (each_two are_apart (y ∷ ys))
    (and_from (are_apart x y) (list_all (are_apart x) ys) two.1
    (all_of (are_apart x) ys (λ z m. beyond x y z rows.0 own (all_at is_row z ys rest m) (all_at (agree x) z ys told m) two.0 (all_at (span_before y) z ys later m) two.1 (all_at (are_apart y) z ys others m))))
    more

pub followed : (xs : List Span) (r : Bool) → list_all is_row xs ≡ true → each_two agree xs ≡ true → IsAllAdjacentAnswer (λ x y b. b ≡ follows x y) xs r → r ≡ (each_two span_before xs && each_two are_apart xs)
followed xs true f g h =
    let near : Neighbours xs = λ k d lt. sym (h k d lt) in
    let order = rises span_before trans xs (λ k d lt. (and_parts (span_before (get_or xs k d) (get_or xs (k + 1) d)) (are_apart (get_or xs k d) (get_or xs (k + 1) d)) (near k d lt)).0) in
    sym (and_from (each_two span_before xs) (each_two are_apart xs) order (apart xs f g order near))
followed [] false f g h = absurd (omega (arith, h.1))
followed (x ∷ xs) false f g h =
    sym (false_from_ne_true (each_two span_before (x ∷ xs) && each_two are_apart (x ∷ xs)) (λ t.
    let both = and_parts (each_two span_before (x ∷ xs)) (each_two are_apart (x ∷ xs)) t in
    false≢true (h.2 x ∙ and_from (span_before (get_or (x ∷ xs) h.0 x) (get_or (x ∷ xs) (h.0 + 1) x)) (are_apart (get_or (x ∷ xs) h.0 x) (get_or (x ∷ xs) (h.0 + 1) x))
    (two_pass span_before (x ∷ xs) h.0 (h.0 + 1) x both.0 (omega arith) h.1) (two_pass are_apart (x ∷ xs) h.0 (h.0 + 1) x both.1 (omega arith) h.1))))

-- ---- sorted rows

order_of : (xs : List Span) → are_rows xs ≡ true → each_two span_before xs ≡ true
order_of xs h = (and_parts (list_all is_row xs) (each_two span_before xs) (and_parts (list_all is_row xs && each_two span_before xs) (each_two are_apart xs) h).0).1

not_rows : (xs : List Span) → each_two span_before xs ≡ false → are_rows xs ≡ false
not_rows xs h = false_from_ne_true (are_rows xs) (λ t. both_ways (each_two span_before xs) h (order_of xs t))

nothing : (xs : List Span) → each_two span_before xs ≡ false → None ≡ only_if (are_rows xs) xs
nothing xs h = ap (λ b. cond b (Some xs) None) (sym (not_rows xs h))

-- Rows in any order make the same canonical rows, or none.
pub canonical-permutation : (xs ys : List Span) → IsPermutation xs ys → canonical xs ≡ canonical ys
canonical-permutation xs ys same = by (sort_alike span_before rows_rank xs ys same)
  where
    by : (sorted span_before xs ≡ sorted span_before ys) ⊎ ((each_two span_before (sorted span_before xs) ≡ false) × (each_two span_before (sorted span_before ys) ≡ false)) → canonical xs ≡ canonical ys
    by (inl e) = ap (λ zs. only_if (are_rows zs) zs) e
    by (inr f) = sym (nothing (sorted span_before xs) f.0) ∙ nothing (sorted span_before ys) f.1

-- the rows that a sort leaves, tested as they stand
module _ (xs ys : List Span) (same : IsPermutation xs ys) (up : IsSortedBy span_before ys) where
  pub tested : only_if (are_rows ys) ys ≡ canonical xs
  tested = by (cases_Bool (each_two span_before ys))
    where
      by : (each_two span_before ys ≡ true) ⊎ (each_two span_before ys ≡ false) → only_if (are_rows ys) ys ≡ canonical xs
      by (inl h) = ap (λ zs. only_if (are_rows zs) zs) (sym (sorted_is span_before rows_rank ys xs h (IsPermutation-sym xs ys same)))
      by (inr f) =
          sym (nothing ys f) ∙ nothing (sorted span_before ys) (false_from_ne_true (each_two span_before (sorted span_before ys)) (λ t. both_ways (each_two span_before ys) f (sorted_strict span_before rows_rank ys up t)))
          ∙ sym (canonical-permutation xs ys same)

  pub rows_kept : are_rows ys ≡ true → Some ys ≡ canonical xs
  rows_kept h = ap (λ b. cond b (Some ys) None) (sym h) ∙ tested

  pub rows_refused : are_rows ys ≡ false → None ≡ canonical xs
  rows_refused h = ap (λ b. cond b (Some ys) None) (sym h) ∙ tested

-- rows that stand in canonical form
pub are_canonical : (xs ys : List Span) → canonical xs ≡ Some ys → are_rows ys ≡ true
are_canonical xs ys h = by (are_rows (sorted span_before xs)) refl h
  where
    same : {A : Type 0} {a b : A} → ◌≡◌ {A = Option A} (Some a) (Some b) → a ≡ b
    same e = cc

    by : (b : Bool) → are_rows (sorted span_before xs) ≡ b → ◌≡◌ {A = Option (List Span)} (only_if b (sorted span_before xs)) (Some ys) → are_rows ys ≡ true
    by true e k = ap are_rows (sym (same k)) ∙ e
    by false e k = absurd (cc k)
