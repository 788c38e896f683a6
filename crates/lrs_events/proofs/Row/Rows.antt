-- Rows in order, apart and merged, in words for proofs.
use Rattle.std.proofs.Common.{◌≡◌, ◌<◌, ◌≤◌, Bool, true, false, ◌⊎◌, inl, inr, List, [], ◌∷◌, ◌++◌, refl, sym, ap, subst, ◌∙◌, arith}
use Rattle.std.specs.Prelude.{◌||◌, ◌&&◌, not, nat_lt, nat_le, nat_eq}
use Rattle.std.specs.List.{list_all}
use Rattle.std.specs.declared.cmp.Ordering.{Ordering}
use Rattle.std.specs.declared.cmp.Ordering.TheVariants.{Less, Equal, Greater}
use Rattle.std.specs.Ordering.{is_eq, is_lt, ordering_reverse}
use Rattle.std.specs.Cmp.Lexicographic.{nat_list_cmp_total, bytes_decides, texts_ties}
use Rattle.std.proofs.lemmas.Bool.{false≢true, both_ways, not-true, and_parts, and_from, or_cases, or_left, or_right, eqb-true, eq-eqb, ne_eqb, ltb-true, leb-true, lt-ltb, le-leb, cases_Bool, cases_eq, cases_lt}
use Rattle.lrs_measure.specs.Lists.{In, each_two}
use Rattle.lrs_measure.specs.Texts.{Name, name_cmp, same_name, name_before}
use Rattle.lrs_measure.specs.Limits.{longest_route}
use Rattle.lrs_measure.proofs.Members.{all_at, all_of, In-append_left, In-append_right, In-append_cases}
use Rattle.lrs_events.specs.declared.side.Side.{Side}
use Rattle.lrs_events.specs.declared.side.Side.TheVariants.{L, R, B}
use Rattle.lrs_events.specs.declared.span.Span.{Span}
use Rattle.lrs_events.specs.Spans.{span_before, same_side, are_apart, is_row, are_rows}
use Rattle.lrs_events.specs.Row.Order.{IsLeft, by_class, by_asset, by_place, Joins}
use Rattle.lrs_events.proofs.Row.Unique.{is_same, less_one}

pub record IsFull (r : Span) : Type 0 where
  pub some : r.from < r.to
  pub short : r.to ≤ longest_route

-- a row stands in front of another
pub record IsAhead (r s : Span) : Type 0 where
  pub left : IsLeft r s
  pub one_class : r.asset ≡ s.asset → r.class ≡ s.class
  pub not_joined : Joins r s → ⊥

-- each stands in front of those behind it
abbrev pub Pairs : List Span → Type 0
Pairs [] = Unit {0}
Pairs (r ∷ rs) = ((s : Span) → In s rs → IsAhead r s) × Pairs rs

pub record AreRows (rows : List Span) : Type 0 where
  pub full : (r : Span) → In r rows → IsFull r
  pub pairs : Pairs rows

-- ---- names and sides

same_before : (c d : Name) → c ≡ d → name_before c d ≡ true → ⊥
same_before c d e h = less_one c d h e

pub name_trans : (c d e : Name) → name_before c d ≡ true → name_before d e ≡ true → name_before c e ≡ true
name_trans c d e h k = ap is_lt (nat_list_cmp_total.trans c d e (less c d h) (less d e k))
  where
    lt : (o : Ordering) → is_lt o ≡ true → o ≡ Less
    lt Less h = refl
    lt Equal h = absurd (false≢true h)
    lt Greater h = absurd (false≢true h)

    less : (c d : Name) → name_before c d ≡ true → name_cmp c d ≡ Less
    less c d h = lt (name_cmp c d) h

pub data NameCases (c d : Name) : Type 0 where
  before : name_before c d ≡ true → NameCases c d
  same : c ≡ d → NameCases c d
  behind : name_before d c ≡ true → NameCases c d

pub name_cases : (c d : Name) → NameCases c d
name_cases c d = by (name_cmp c d) refl
  where
    by : (o : Ordering) → o ≡ name_cmp c d → NameCases c d
    by Less e = before (ap is_lt (sym e))
    by Equal e = same ((bytes_decides c d).0 (texts_ties c d ∙ ap is_eq (sym e)))
    by Greater e = behind (ap is_lt (nat_list_cmp_total.antisymm d c ∙ ap ordering_reverse (sym e)))

pub sides_same : (a b : Side) → same_side a b ≡ true → a ≡ b
sides_same L L h = refl
sides_same R R h = refl
sides_same B B h = refl
sides_same L R h = absurd (false≢true h)
sides_same L B h = absurd (false≢true h)
sides_same R L h = absurd (false≢true h)
sides_same R B h = absurd (false≢true h)
sides_same B L h = absurd (false≢true h)
sides_same B R h = absurd (false≢true h)

-- ---- the order of rows

-- where two that are left of another are of one class and one asset, so is what is between
pub left_trans : (r s t : Span) → IsFull s → IsLeft r s → IsLeft s t → IsLeft r t
left_trans r s t f (by_class h) (by_class k) = by_class (name_trans r.class s.class t.class h k)
left_trans r s t f (by_class h) (by_asset c k) = by_class (subst (λ z. name_before r.class z ≡ true) c h)
left_trans r s t f (by_class h) (by_place c a k) = by_class (subst (λ z. name_before r.class z ≡ true) c h)
left_trans r s t f (by_asset c h) (by_class k) = by_class (subst (λ z. name_before z t.class ≡ true) (sym c) k)
left_trans r s t f (by_asset c h) (by_asset d k) = by_asset (c ∙ d) (omega (arith, h, k))
left_trans r s t f (by_asset c h) (by_place d a k) = by_asset (c ∙ d) (omega (arith, h, a))
left_trans r s t f (by_place c a h) (by_class k) = by_class (subst (λ z. name_before z t.class ≡ true) (sym c) k)
left_trans r s t f (by_place c a h) (by_asset d k) = by_asset (c ∙ d) (omega (arith, a, k))
left_trans r s t f (by_place c a h) (by_place d b k) = let g = f.some in by_place (c ∙ d) (a ∙ b) (omega (arith, h, k, g))

-- two of one class and one asset
pub left_place : (r s : Span) → IsLeft r s → r.class ≡ s.class → r.asset ≡ s.asset → r.to ≤ s.from
left_place r s (by_class h) c a = absurd (less_one r.class s.class h c)
left_place r s (by_asset d h) c a = absurd (omega (arith, h, a))
left_place r s (by_place d b h) c a = h

-- what is between two of one class and one asset is of them too
pub record IsBetween (r s t : Span) : Type 0 where
  pub first : r.to ≤ s.from
  pub second : s.to ≤ t.from

pub between_two : (r s t : Span) → IsLeft r s → IsLeft s t → r.class ≡ t.class → r.asset ≡ t.asset → IsBetween r s t
between_two r s t (by_class h) (by_class k) c a = absurd (less_one r.class t.class (name_trans r.class s.class t.class h k) c)
between_two r s t (by_class h) (by_asset d k) c a = absurd (less_one r.class s.class h (c ∙ sym d))
between_two r s t (by_class h) (by_place d b k) c a = absurd (less_one r.class s.class h (c ∙ sym d))
between_two r s t (by_asset d h) (by_class k) c a = absurd (less_one s.class t.class k (sym d ∙ c))
between_two r s t (by_asset d h) (by_asset e k) c a = absurd (omega (arith, h, k, a))
between_two r s t (by_asset d h) (by_place e b k) c a = absurd (omega (arith, h, b, a))
between_two r s t (by_place d b h) (by_class k) c a = absurd (less_one s.class t.class k (sym d ∙ c))
between_two r s t (by_place d b h) (by_asset e k) c a = absurd (omega (arith, b, k, a))
between_two r s t (by_place d b h) (by_place e g k) c a = record { first = h; second = k }

-- no row joins one behind its neighbour
pub not_across : (r s t : Span) → IsFull s → IsLeft r s → IsLeft s t → Joins r t → ⊥
not_across r s t f h k j =
    let b = between_two r s t h k j.of_class j.of_asset in
    let x = b.first in let y = b.second in let z = j.at in let w = f.some in omega (arith, x, y, z, w)

-- ---- rows in order, as the type has them

pub full_from : (r : Span) → is_row r ≡ true → IsFull r
full_from r h = let p = and_parts (nat_lt r.from r.to) (nat_le r.to longest_route) h in record { some = ltb-true r.from r.to p.0; short = leb-true r.to longest_route p.1 }

pub full_is : (r : Span) → IsFull r → is_row r ≡ true
full_is r f = and_from (nat_lt r.from r.to) (nat_le r.to longest_route) (lt-ltb r.from r.to f.some) (le-leb r.to longest_route f.short)

-- the three parts of the order's test
abbrev later : Span → Span → Bool
later r s = nat_lt r.asset s.asset || (nat_eq r.asset s.asset && nat_lt r.from s.from)

abbrev touch : Span → Span → Bool
touch r s = (nat_eq r.to s.from || nat_eq s.to r.from) && not (same_side r.side s.side)

abbrev rest : Span → Span → Bool
rest r s = nat_lt r.to s.from || nat_lt s.to r.from || touch r s

-- what stands first begins first
pub data BeginsFirst (r s : Span) : Type 0 where
  begins_class : name_before r.class s.class ≡ true → BeginsFirst r s
  begins_asset : r.class ≡ s.class → r.asset < s.asset → BeginsFirst r s
  begins_start : r.class ≡ s.class → r.asset ≡ s.asset → r.from < s.from → BeginsFirst r s

pub begins_first : (r s : Span) → span_before r s ≡ true → BeginsFirst r s
begins_first r s h = by (or_cases (name_before r.class s.class) (same_name r.class s.class && later r s) h)
  where
    inner : r.class ≡ s.class → (nat_lt r.asset s.asset ≡ true) ⊎ ((nat_eq r.asset s.asset && nat_lt r.from s.from) ≡ true) → BeginsFirst r s
    inner e (inl k) = begins_asset e (ltb-true r.asset s.asset k)
    inner e (inr k) = let b = and_parts (nat_eq r.asset s.asset) (nat_lt r.from s.from) k in begins_start e (eqb-true r.asset s.asset b.0) (ltb-true r.from s.from b.1)

    by : (name_before r.class s.class ≡ true) ⊎ ((same_name r.class s.class && later r s) ≡ true) → BeginsFirst r s
    by (inl k) = begins_class k
    by (inr k) =
        let b = and_parts (same_name r.class s.class) (later r s) k in
        inner ((bytes_decides r.class s.class).0 b.0) (or_cases (nat_lt r.asset s.asset) (nat_eq r.asset s.asset && nat_lt r.from s.from) b.1)

pub first_begins : (r s : Span) → BeginsFirst r s → span_before r s ≡ true
first_begins r s (begins_class h) = or_left _ _ h
first_begins r s (begins_asset e h) = or_right (name_before r.class s.class) _ (and_from (same_name r.class s.class) (later r s) ((bytes_decides r.class s.class).1 e) (or_left _ _ (lt-ltb r.asset s.asset h)))
first_begins r s (begins_start e a h) =
    or_right (name_before r.class s.class) _ (and_from (same_name r.class s.class) (later r s) ((bytes_decides r.class s.class).1 e)
    (or_right (nat_lt r.asset s.asset) _ (and_from (nat_eq r.asset s.asset) (nat_lt r.from s.from) (eq-eqb r.asset s.asset a) (lt-ltb r.from s.from h))))

-- of two that are apart
pub record IsApart (r s : Span) : Type 0 where
  pub one_class : r.asset ≡ s.asset → r.class ≡ s.class
  pub off : r.asset ≡ s.asset → (r.to ≤ s.from) ⊎ (s.to ≤ r.from)
  pub differ : r.asset ≡ s.asset → r.to ≡ s.from → same_side r.side s.side ≡ false

pub apart_from : (r s : Span) → r.from < r.to → s.from < s.to → are_apart r s ≡ true → IsApart r s
apart_from r s f g h = record { one_class = λ e. (both e).0; off = λ e. where_off (both e).1; differ = λ e t. sides t (both e).1 }
  where
    both : r.asset ≡ s.asset → (r.class ≡ s.class) × (rest r s ≡ true)
    both e = by (or_cases (not (nat_eq r.asset s.asset)) (same_name r.class s.class && rest r s) h)
      where
        by : (not (nat_eq r.asset s.asset) ≡ true) ⊎ ((same_name r.class s.class && rest r s) ≡ true) → (r.class ≡ s.class) × (rest r s ≡ true)
        by (inl k) = absurd (both_ways (nat_eq r.asset s.asset) (not-true (nat_eq r.asset s.asset) k) (eq-eqb r.asset s.asset e))
        by (inr k) = let p = and_parts (same_name r.class s.class) (rest r s) k in ((bytes_decides r.class s.class).0 p.0, p.1)

    where_off : rest r s ≡ true → (r.to ≤ s.from) ⊎ (s.to ≤ r.from)
    where_off k = outer (or_cases (nat_lt r.to s.from || nat_lt s.to r.from) (touch r s) k)
      where
        meet : (nat_eq r.to s.from ≡ true) ⊎ (nat_eq s.to r.from ≡ true) → (r.to ≤ s.from) ⊎ (s.to ≤ r.from)
        meet (inl e) = let q = eqb-true r.to s.from e in inl (omega (arith, q))
        meet (inr e) = let q = eqb-true s.to r.from e in inr (omega (arith, q))

        inner : (nat_lt r.to s.from ≡ true) ⊎ (nat_lt s.to r.from ≡ true) → (r.to ≤ s.from) ⊎ (s.to ≤ r.from)
        inner (inl e) = let q = ltb-true r.to s.from e in inl (omega (arith, q))
        inner (inr e) = let q = ltb-true s.to r.from e in inr (omega (arith, q))

        outer : ((nat_lt r.to s.from || nat_lt s.to r.from) ≡ true) ⊎ (touch r s ≡ true) → (r.to ≤ s.from) ⊎ (s.to ≤ r.from)
        outer (inl e) = inner (or_cases (nat_lt r.to s.from) (nat_lt s.to r.from) e)
        outer (inr e) = meet (or_cases (nat_eq r.to s.from) (nat_eq s.to r.from) (and_parts (nat_eq r.to s.from || nat_eq s.to r.from) (not (same_side r.side s.side)) e).0)

    sides : r.to ≡ s.from → rest r s ≡ true → same_side r.side s.side ≡ false
    sides t k = outer (or_cases (nat_lt r.to s.from || nat_lt s.to r.from) (touch r s) k)
      where
        inner : (nat_lt r.to s.from ≡ true) ⊎ (nat_lt s.to r.from ≡ true) → same_side r.side s.side ≡ false
        inner (inl e) = let q = ltb-true r.to s.from e in absurd (omega (arith, q, t))
        inner (inr e) = let q = ltb-true s.to r.from e in absurd (omega (arith, q, t, f, g))

        outer : ((nat_lt r.to s.from || nat_lt s.to r.from) ≡ true) ⊎ (touch r s ≡ true) → same_side r.side s.side ≡ false
        outer (inl e) = inner (or_cases (nat_lt r.to s.from) (nat_lt s.to r.from) e)
        outer (inr e) = not-true (same_side r.side s.side) (and_parts (nat_eq r.to s.from || nat_eq s.to r.from) (not (same_side r.side s.side)) e).1

pub ahead_from : (r s : Span) → r.from < r.to → s.from < s.to → span_before r s ≡ true → are_apart r s ≡ true → IsAhead r s
ahead_from r s f g h k = record { left = by (begins_first r s h); one_class = a.one_class; not_joined = λ j. both_ways (same_side r.side s.side) (a.differ j.of_asset j.at) (is_same r.side s.side j.on_side) }
  where
    a : IsApart r s
    a = apart_from r s f g k

    off : r.from < s.from → (r.to ≤ s.from) ⊎ (s.to ≤ r.from) → r.to ≤ s.from
    off l (inl e) = e
    off l (inr e) = absurd (omega (arith, l, e, g))

    by : BeginsFirst r s → IsLeft r s
    by (begins_class e) = by_class e
    by (begins_asset e l) = by_asset e l
    by (begins_start e m l) = by_place e m (off l (a.off m))

pub left_first : (r s : Span) → r.from < r.to → IsLeft r s → BeginsFirst r s
left_first r s f (by_class h) = begins_class h
left_first r s f (by_asset c h) = begins_asset c h
left_first r s f (by_place c a h) = begins_start c a (omega (arith, f, h))

pub ahead_before : (r s : Span) → r.from < r.to → IsAhead r s → span_before r s ≡ true
ahead_before r s f h = first_begins r s (left_first r s f h.left)

pub ahead_apart : (r s : Span) → IsAhead r s → are_apart r s ≡ true
ahead_apart r s h = by (cases_eq r.asset s.asset)
  where
    touching : r.asset ≡ s.asset → r.class ≡ s.class → r.to ≡ s.from → touch r s ≡ true
    touching a c t = and_from (nat_eq r.to s.from || nat_eq s.to r.from) (not (same_side r.side s.side)) (or_left _ _ (eq-eqb r.to s.from t)) (differ (cases_Bool (same_side r.side s.side)))
      where
        differ : (same_side r.side s.side ≡ true) ⊎ (same_side r.side s.side ≡ false) → not (same_side r.side s.side) ≡ true
        differ (inl e) = absurd (h.not_joined (record { of_class = c; of_asset = a; at = t; on_side = sides_same r.side s.side e }))
        differ (inr e) = ap not e

    off : r.asset ≡ s.asset → r.class ≡ s.class → (r.to < s.from) ⊎ (s.from ≤ r.to) → rest r s ≡ true
    off a c (inl k) = or_left _ _ (or_left _ _ (lt-ltb r.to s.from k))
    off a c (inr k) = let l = left_place r s h.left c a in or_right (nat_lt r.to s.from || nat_lt s.to r.from) _ (touching a c (omega (arith, k, l)))

    by : (r.asset ≡ s.asset) ⊎ (r.asset ≡ s.asset → ⊥) → are_apart r s ≡ true
    by (inl e) = or_right (not (nat_eq r.asset s.asset)) _ (and_from (same_name r.class s.class) (rest r s) ((bytes_decides r.class s.class).1 (h.one_class e)) (off e (h.one_class e) (cases_lt r.to s.from)))
    by (inr n) = or_left _ _ (ap not (ne_eqb r.asset s.asset n))

pairs_from : (rows : List Span) → ((r : Span) → In r rows → IsFull r) → each_two span_before rows ≡ true → each_two are_apart rows ≡ true → Pairs rows
pairs_from [] f h k = tt
pairs_from (r ∷ rs) f h k =
    let a = and_parts (list_all (span_before r) rs) (each_two span_before rs) h in
    let b = and_parts (list_all (are_apart r) rs) (each_two are_apart rs) k in
    (λ s m. ahead_from r s (f r (inl refl)).some (f s (inr m)).some (all_at (span_before r) s rs a.0 m) (all_at (are_apart r) s rs b.0 m), pairs_from rs (λ s m. f s (inr m)) a.1 b.1)

pub rows_from : (rows : List Span) → are_rows rows ≡ true → AreRows rows
rows_from rows h =
    let a = and_parts (list_all is_row rows && each_two span_before rows) (each_two are_apart rows) h in
    let b = and_parts (list_all is_row rows) (each_two span_before rows) a.0 in
    let full = λ (r : Span) (m : In r rows). full_from r (all_at is_row r rows b.0 m) in
    record { full = full; pairs = pairs_from rows full b.1 a.1 }

pairs_before : (rows : List Span) → ((r : Span) → In r rows → IsFull r) → Pairs rows → each_two span_before rows ≡ true
pairs_before [] f p = refl
pairs_before (r ∷ rs) f p = and_from _ _ (all_of (span_before r) rs (λ s m. ahead_before r s (f r (inl refl)).some (p.0 s m))) (pairs_before rs (λ s m. f s (inr m)) p.1)

pairs_apart : (rows : List Span) → Pairs rows → each_two are_apart rows ≡ true
pairs_apart [] p = refl
pairs_apart (r ∷ rs) p = and_from _ _ (all_of (are_apart r) rs (λ s m. ahead_apart r s (p.0 s m))) (pairs_apart rs p.1)

pub rows_are : (rows : List Span) → AreRows rows → are_rows rows ≡ true
rows_are rows h = and_from _ _ (and_from _ _ (all_of is_row rows (λ r m. full_is r (h.full r m))) (pairs_before rows h.full h.pairs)) (pairs_apart rows h.pairs)

-- ---- parts of rows

pub pairs_append : (xs ys : List Span) → Pairs xs → Pairs ys → ((x y : Span) → In x xs → In y ys → IsAhead x y) → Pairs (xs ++ ys)
pairs_append [] ys p q c = q
pairs_append (x ∷ xs) ys p q c = (λ y m. by y (In-append_cases y xs ys m), pairs_append xs ys p.1 q (λ z y m n. c z y (inr m) n))
  where
    by : (y : Span) → In y xs ⊎ In y ys → IsAhead x y
    by y (inl m) = p.0 y m
    by y (inr m) = c x y (inl refl) m

pub pairs_front : (xs ys : List Span) → Pairs (xs ++ ys) → Pairs xs
pairs_front [] ys p = tt
pairs_front (x ∷ xs) ys p = (λ y m. p.0 y (In-append_left y xs ys m), pairs_front xs ys p.1)

pub pairs_rear : (xs ys : List Span) → Pairs (xs ++ ys) → Pairs ys
pairs_rear [] ys p = p
pairs_rear (x ∷ xs) ys p = pairs_rear xs ys p.1

pub pairs_across : (xs ys : List Span) (x y : Span) → Pairs (xs ++ ys) → In x xs → In y ys → IsAhead x y
pairs_across [] ys x y p m n = absurd m
pairs_across (z ∷ xs) ys x y p (inl e) n = subst (λ w. IsAhead w y) (sym e) (p.0 y (In-append_right y xs ys n))
pairs_across (z ∷ xs) ys x y p (inr m) n = pairs_across xs ys x y p.1 m n

-- other rows stand in place of some
pub exchanged : (front mid rear come : List Span) → AreRows (front ++ (mid ++ rear)) → AreRows come
    → ((x y : Span) → In x front → In y come → IsAhead x y) → ((y z : Span) → In y come → In z rear → IsAhead y z) → AreRows (front ++ (come ++ rear))
exchanged front mid rear come h k fore aft = record {
  full = λ r m. by r (In-append_cases r front (come ++ rear) m);
  pairs = pairs_append front (come ++ rear) (pairs_front front (mid ++ rear) h.pairs)
      (pairs_append come rear k.pairs (pairs_rear mid rear (pairs_rear front (mid ++ rear) h.pairs)) aft)
      (λ x y m n. across x y m (In-append_cases y come rear n));
}
  where
    two : (r : Span) → In r come ⊎ In r rear → IsFull r
    two r (inl m) = k.full r m
    two r (inr m) = h.full r (In-append_right r front (mid ++ rear) (In-append_right r mid rear m))

    by : (r : Span) → In r front ⊎ In r (come ++ rear) → IsFull r
    by r (inl m) = h.full r (In-append_left r front (mid ++ rear) m)
    by r (inr m) = two r (In-append_cases r come rear m)

    across : (x y : Span) → In x front → In y come ⊎ In y rear → IsAhead x y
    across x y m (inl n) = fore x y m n
    across x y m (inr n) = pairs_across front (mid ++ rear) x y h.pairs m (In-append_right y mid rear n)
